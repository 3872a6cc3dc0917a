-- A buffer stands for one ledger, and is then not refused.
use Rattle.std.proofs.Common.{◌≡◌, ℕ, true, List, [], length, take, drop, Some, None, Option, sym, refl, ap, ◌∙◌, subst, ap₂, arith}
use Rattle.book.specs.Meaning.{Meaning, Laws}
use Rattle.refusal.specs.declared.fault.Fault.{Fault}
use Rattle.model.specs.Records.{Record, TableField, GoodTag, Begun, joined}
use Rattle.model.specs.Records.Begun.{known, bare, lump}
use Rattle.model.specs.Walks.{Fails}
use Rattle.model.specs.Ledgers.{Ledger, Drafting, drafted}
use Rattle.model.specs.Ledgers.LookRefuses.{long, walk, badtag, draft}
use Rattle.model.specs.Laws.{OneLedger, NeverBoth}
use Rattle.model.proofs.Lists.{clash, both, never}
use Rattle.model.proofs.Unique.{one_list, begun_one}
use Rattle.model.proofs.Apart.{fails_apart, refuses_apart}

abbrev entry : List ℕ → List (List ℕ) → Record
entry t ss = record { tag = t; spellings = ss }

abbrev ledger_of : List Record → Option Record → Ledger
ledger_of l d = record { records = l; draft = d }

module _ {V : Type 0} {m : Meaning V} (laws : Laws m) where
  one_draft : (x y : Option Record) (tail : List ℕ) → drafted x ≡ drafted y → Drafting m tail x → Drafting m tail y → x ≡ y
  one_draft None None tail e a b = refl
  one_draft None (Some y) tail e a b = never (clash e refl)
  one_draft (Some x) None tail e a b = never (clash refl e)
  one_draft (Some x) (Some y) tail e a b =
      let k : length (joined x.spellings) ≡ length (joined y.spellings) = cc in
      let t : x.tag ≡ y.tag = sym a.tag ∙ b.tag in
      let d : joined x.spellings ≡ joined y.spellings = sym a.bytes ∙ ap (λ i. take i (drop 11 tail)) k ∙ b.bytes in
      let u : Begun m x.tag y.spellings b.fields = subst (λ g. Begun m g y.spellings b.fields) (sym t) b.begun in
      let z = begun_one laws a.begun u d in
      let same : x ≡ y = ap₂ entry t z.0 in
      ap Some same

  pub one_ledger : OneLedger m
  one_ledger buf a L K t u s r =
      let z = one_list laws s.whole r.whole (sym s.bytes ∙ r.bytes) in
      let e : drafted L.draft ≡ drafted K.draft = ap (λ i. i.draft) (sym s.is ∙ r.is) in
      (ap₂ ledger_of z.0 (one_draft L.draft K.draft (drop a.end buf) e s.draft r.draft), z.1)

  no_badtag : (x : Option Record) (tail : List ℕ) {k : ℕ} → drafted x ≡ Some k → Drafting m tail x → (GoodTag (take 6 tail) → ⊥) → ⊥
  no_badtag None tail e d g = clash e refl
  no_badtag (Some x) tail e d g = g (subst GoodTag (sym d.tag) d.good)

  inner : {n base : ℕ} {f : Fault} {tag d : List ℕ} {ss : List (List ℕ)} {fs : List (TableField V)} → m.knows tag ≡ true → Fails m true n tag base [] d 0 f → Begun m tag ss fs → d ≡ joined ss → ⊥
  inner w f (known i g) q = fails_apart laws f g q tt
  inner w f (bare i) q = both w i
  inner w f (lump i h) q = both w i

  no_draft : {n base : ℕ} {f : Fault} (x : Option Record) (tail : List ℕ) (k : ℕ) → drafted x ≡ Some k → Drafting m tail x → m.knows (take 6 tail) ≡ true → Fails m true n (take 6 tail) base [] (take k (drop 11 tail)) 0 f → ⊥
  no_draft None tail k e d w f = clash e refl
  no_draft (Some x) tail k e d w f =
      let len : length (joined x.spellings) ≡ k = cc in
      let bytes : take k (drop 11 tail) ≡ joined x.spellings = ap (λ i. take i (drop 11 tail)) (sym len) ∙ d.bytes in
      let b : Begun m (take 6 tail) x.spellings d.fields = subst (λ g. Begun m g x.spellings d.fields) (sym d.tag) d.begun in
      inner w f b bytes

  pub never_both : NeverBoth m
  never_both buf a L t f s (long h) = let k = s.fits in omega arith
  never_both buf a L t f s (walk h r) = refuses_apart laws r s.whole s.bytes
  never_both buf a L t f s (badtag h d b w g) = no_badtag L.draft (drop a.end buf) (ap (λ i. i.draft) (sym s.is) ∙ d) s.draft g
  never_both buf a L t f s (draft {k = k} h d b w g n r) = no_draft L.draft (drop a.end buf) k (ap (λ i. i.draft) (sym s.is) ∙ d) s.draft n r
