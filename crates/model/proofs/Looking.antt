-- What a look finds.
use Rattle.std.proofs.Common.{◌≡◌, ℕ, min, inl, inr, ◌+◌, ◌≤◌, true, false, List, [], ◌∷◌, ◌++◌, length, take, drop, Some, None, Ok, Option, sym, refl, ap, ◌∙◌, subst, ap₂, append-nil, arith, length-drop, length-take-le}
use Rattle.std.proofs.lemmas.Bool.{cases_eq}
use Rattle.book.specs.Meaning.{Meaning}
use Rattle.refusal.specs.declared.fault.Fault.{Fault}
use Rattle.refusal.specs.declared.fault.Cause.TheVariants.{BadTag}
use Rattle.model.specs.declared.area.Area.{Area}
use Rattle.model.specs.declared.seen.Read.{Read}
use Rattle.model.specs.declared.seen.Draft.{Draft}
use Rattle.refusal.specs.Faults.{fault}
use Rattle.model.specs.Records.{Record, GoodTag, joined, written}
use Rattle.model.specs.Records.Begun.{known, bare, lump}
use Rattle.model.specs.Walks.{Fails}
use Rattle.model.specs.Ledgers.{LookRefuses, reach, room}
use Rattle.model.specs.Ledgers.LookRefuses.{badtag, draft}
use Rattle.model.specs.Looks.{Fielded, Fieldeds, Listed, Draws, Spoilt, Looked}
use Rattle.model.specs.Looks.Spoilt.{tag, fields}

module _ {V M : Type 0} (m : Meaning V) (stands : List ℕ → List ℕ → M → Type 0) (tail : List ℕ) (k base n : ℕ) (g : GoodTag (take 6 tail)) (h : 11 + k ≤ length tail) where
  d_long : length (take k (drop 11 tail)) ≡ k
  d_long = length-take-le k (drop 11 tail) (let q = length-drop 11 tail in omega arith)

  pub draws_known : (o : Option (Read M)) (r : Read M) → o ≡ Some r → Fieldeds m stands true n (take 6 tail) base (take k (drop 11 tail)) (Ok o) → Draws m stands tail k (record { mark = Some r.mark; count = r.count })
  draws_known o r e f =
      let x : Fielded m stands true (take 6 tail) (take k (drop 11 tail)) r = subst (λ i. Fieldeds m stands true n (take 6 tail) base (take k (drop 11 tail)) (Ok i)) e f in
      let l : length (joined x.spellings) ≡ k = ap length x.bytes ∙ d_long in
      record {
        entry = record { tag = take 6 tail; spellings = x.spellings };
        drafts = record { good = g; tag = refl; bytes = ap (λ i. take i (drop 11 tail)) l ∙ sym x.bytes; fields = x.fields; begun = known x.known x.are };
        long = l;
        opened = (x.count, (x.known, subst (λ i. stands (take 6 tail) i r.mark) (sym x.bytes) x.mark));
      }

  unknown : (o : Option (Read M)) → o ≡ None → Fieldeds m stands true n (take 6 tail) base (take k (drop 11 tail)) (Ok o) → m.knows (take 6 tail) ≡ false
  unknown o e f = subst (λ i. Fieldeds m stands true n (take 6 tail) base (take k (drop 11 tail)) (Ok i)) e f

  draws_empty : (o : Option (Read M)) → o ≡ None → k ≡ 0 → Fieldeds m stands true n (take 6 tail) base (take k (drop 11 tail)) (Ok o) → Draws m stands tail k (record { mark = None; count = 0 })
  draws_empty o e z f = record {
    entry = record { tag = take 6 tail; spellings = [] };
    drafts = record { good = g; tag = refl; bytes = refl; fields = []; begun = bare (unknown o e f) };
    long = sym z;
    opened = (refl, unknown o e f);
  }

  draws_lump : (o : Option (Read M)) → o ≡ None → (k ≡ 0 → ⊥) → Fieldeds m stands true n (take 6 tail) base (take k (drop 11 tail)) (Ok o) → Draws m stands tail k (record { mark = None; count = 1 })
  draws_lump o e z f =
      let d = take k (drop 11 tail) in
      let dl = d_long in
      let an : d ++ [] ≡ d = append-nil d in
      let l : length (d ++ []) ≡ k = ap length an ∙ d_long in
      record {
        entry = record { tag = take 6 tail; spellings = d ∷ [] };
        drafts = record { good = g; tag = refl; bytes = ap (λ i. take i (drop 11 tail)) l ∙ sym an; fields = _; begun = lump (unknown o e f) (omega arith) };
        long = l;
        opened = (refl, unknown o e f);
      }

  pub draws_bare : (o : Option (Read M)) → o ≡ None → Fieldeds m stands true n (take 6 tail) base (take k (drop 11 tail)) (Ok o) → Draws m stands tail k (record { mark = None; count = min k 1 })
  draws_bare o e f =
      elim (cases_eq k 0) [
        | inl z ↦ (let q : min k 1 ≡ 0 = omega arith in rw q (draws_empty o e z f))
        | inr z ↦ (let q : min k 1 ≡ 1 = omega arith in rw q (draws_lump o e z f))
      ]

module _ {V M : Type 0} (m : Meaning V) (stands : List ℕ → List ℕ → M → Type 0) (buf : List ℕ) (a : Area) where
  end_is : a.end ≤ room buf → (l : List Record) → take a.end buf ≡ written l → a.end ≡ length (written l)
  end_is h l e = sym (length-take-le a.end buf (omega arith)) ∙ ap length e

  abbrev made : ℕ → Option ℕ → Area
  made e d = record { end = e; draft = d }

  pub spoilt : {f : Fault} (k n : ℕ) → a.draft ≡ Some k → reach a ≤ room buf → Listed m (take a.end buf) n → Spoilt m (drop a.end buf) k a.end n f → LookRefuses m buf a f
  spoilt k n e h l (tag b) = subst (λ i. LookRefuses m buf a (fault BadTag a.end i 0)) l.count (badtag {k = k} h e l.bytes l.whole b)
  spoilt {f} k n e h l (fields b w x) = draft {k = k} h e l.bytes l.whole b w (subst (λ i. Fails m true i (take 6 (drop a.end buf)) (a.end + 11) [] (take k (drop 11 (drop a.end buf))) 0 f) (sym l.count) x)

  pub looked_shut : (n : ℕ) → a.draft ≡ None → reach a ≤ room buf → Listed m (take a.end buf) n → Looked m stands buf a (record { count = n; draft = None })
  looked_shut n e h l = record {
    ledger = record { records = l.records; draft = None };
    table = l.table;
    stood = record { is = ap₂ made (end_is (omega (arith, h)) l.records l.bytes) e; fits = h; bytes = l.bytes; whole = l.whole; draft = tt };
    count = l.count;
    opened = tt;
  }

  pub looked_draft : (k n : ℕ) (o : Draft M) → a.draft ≡ Some k → reach a ≤ room buf → Listed m (take a.end buf) n → Draws m stands (drop a.end buf) k o → Looked m stands buf a (record { count = n; draft = Some o })
  looked_draft k n o e h l d = record {
    ledger = record { records = l.records; draft = Some d.entry };
    table = l.table;
    stood = record { is = ap₂ made (end_is (omega (arith, h)) l.records l.bytes) (e ∙ ap Some (sym d.long)); fits = h; bytes = l.bytes; whole = l.whole; draft = d.drafts };
    count = l.count;
    opened = d.opened;
  }
