-- The first record of some bytes, and records one after another.
use Rattle.std.proofs.Common.{◌≡◌, ℕ, ◌+◌, ◌-◌, ◌<◌, ◌≤◌, true, false, List, [], ◌∷◌, ◌++◌, length, take, drop, Some, None, Ok, Option, sym, refl, ap, ◌∙◌, subst, ap₂, append_assoc, append-nil, arith, length-append, length-drop, take-append-drop, length-take-le, take_all, drop-drop, take_at, take-add}
use Rattle.std.proofs.lemmas.List.{length_push}
use Rattle.book.specs.Meaning.{Meaning}
use Rattle.refusal.specs.declared.fault.Fault.{Fault}
use Rattle.refusal.specs.declared.fault.Cause.TheVariants.{CutOff, BadTag, BadLength}
use Rattle.model.specs.declared.seen.Read.{Read}
use Rattle.refusal.specs.Faults.{fault}
use Rattle.model.specs.Records.{Record, TableRow, GoodTag, AllWhole, joined, digits5, record_of, written}
use Rattle.model.specs.Records.Begun.{known, lump}
use Rattle.model.specs.Records.Full.{asked, filled}
use Rattle.model.specs.Records.Value.{raw}
use Rattle.model.specs.Records.AllWhole.{none as no_rows, more}
use Rattle.model.specs.Walks.{Fails, Refuses, Says}
use Rattle.model.specs.Walks.Refuses.{badtag, badlength, cutoff, inside, later}
use Rattle.model.specs.Looks.{Fielded, Fieldeds, Led, Listed}
use Rattle.model.proofs.Whole.{all_append, written_append, record_length}

module _ {V : Type 0} (m : Meaning V) (a : List ℕ) (at n : ℕ) (h : 11 ≤ length a) where
  six : length (take 6 a) ≡ 6
  six = length-take-le 6 a (omega arith)

  past6 : length (drop 6 a) ≡ length a - 6
  past6 = length-drop 6 a

  five : length (take 5 (drop 6 a)) ≡ 5
  five = length-take-le 5 (drop 6 a) (rw past6 (omega arith))

  parts : a ≡ take 6 a ++ (take 5 (drop 6 a) ++ drop 11 a)
  parts = sym (take-append-drop 6 a) ∙ ap (λ i. take 6 a ++ i) (sym (take-append-drop 5 (drop 6 a)) ∙ ap (λ i. take 5 (drop 6 a) ++ i) (drop-drop 5 6 a))

  pub no_tag : (GoodTag (take 6 a) → ⊥) → Refuses m at n a (fault BadTag at n 0)
  no_tag g = badtag (take 6 a) (drop 6 a) (sym (take-append-drop 6 a)) six (rw past6 (omega arith)) g

  pub no_length : GoodTag (take 6 a) → ((k : ℕ) → Says (take 5 (drop 6 a)) k → ⊥) → Refuses m at n a (fault BadLength (at + 6) n 0)
  no_length g f = badlength (take 6 a) (take 5 (drop 6 a)) (drop 11 a) parts g five f

  module _ (g : GoodTag (take 6 a)) (size : ℕ) (s : Says (take 5 (drop 6 a)) size) where
    pub no_end : length a - 11 < size → Refuses m at n a (fault CutOff at n 0)
    no_end l = cutoff (take 6 a) (take 5 (drop 6 a)) (drop 11 a) size parts g s (let q = length-drop 11 a in omega arith)

    module _ (l : size ≤ length a - 11) where
      d_long : length (take size (drop 11 a)) ≡ size
      d_long = length-take-le size (drop 11 a) (let q = length-drop 11 a in omega arith)

      is : a ≡ record_of (take 6 a) (take size (drop 11 a)) ++ drop (11 + size) a
      unfolding record_of
      is =
          let d = take size (drop 11 a) in
          let e : digits5 (length d) ≡ take 5 (drop 6 a) = ap digits5 d_long ∙ sym s.0 in
          let b : d ++ drop (11 + size) a ≡ drop 11 a = ap (λ i. d ++ i) (sym (drop-drop size 11 a)) ∙ take-append-drop size (drop 11 a) in
          parts ∙ ap₂ (λ (i j : List ℕ). take 6 a ++ (i ++ j)) (sym e) (sym b) ∙ sym (append_assoc (take 6 a ++ digits5 (length d)) d (drop (11 + size) a) ∙ append_assoc (take 6 a) (digits5 (length d)) (d ++ drop (11 + size) a))

      pub bad_data : {f : Fault} → m.knows (take 6 a) ≡ true → Fails m false n (take 6 a) (at + 11) [] (take size (drop 11 a)) 0 f → Refuses m at n a f
      bad_data k f = inside (take 6 a) (take size (drop 11 a)) (drop (11 + size) a) is g (rw d_long s.1) (rw d_long s.2) k f

      pub known_led : {M : Type 0} {stands : List ℕ → List ℕ → M → Type 0} {r : Read M} → Fielded m stands false (take 6 a) (take size (drop 11 a)) r → Led m a (11 + size)
      known_led x = record {
        entry = record { tag = take 6 a; spellings = x.spellings };
        row = record { tag = take 6 a; fields = x.fields };
        whole = record { good = g; begun = known x.known x.are; full = asked x.known (subst (λ i. m.asks (take 6 a) i ≡ None) (sym x.bytes) (x.done refl)); short = let q = ap length x.bytes ∙ d_long in let z = s.2 in omega arith; named = refl };
        is = is ∙ ap (λ i. record_of (take 6 a) i ++ drop (11 + size) a) (sym x.bytes);
        long = ap (λ i. 11 + i) (sym (ap length x.bytes ∙ d_long));
      }

      pub unknown_led : m.knows (take 6 a) ≡ false → Led m a (11 + size)
      unknown_led k =
          let d = take size (drop 11 a) in
          let e : d ≡ d ++ [] = sym (append-nil d) in
          let dl = ap length (append-nil d) ∙ d_long in
          let z1 = s.1 in
          let z2 = s.2 in
          let dd = d_long in
          record {
            entry = record { tag = take 6 a; spellings = d ∷ [] };
            row = record { tag = take 6 a; fields = record { name = 0; value = raw d } ∷ [] };
            whole = record { good = g; begun = lump k (omega arith); full = filled k (omega arith); short = omega arith; named = refl };
            is = is ∙ ap (λ i. record_of (take 6 a) i ++ drop (11 + size) a) e;
            long = omega arith;
          }

      pub any_led : {M : Type 0} (stands : List ℕ → List ℕ → M → Type 0) (o : Option (Read M)) → Fieldeds m stands false n (take 6 a) (at + 11) (take size (drop 11 a)) (Ok o) → Led m a (11 + size)
      any_led stands None x = unknown_led x
      any_led stands (Some r) x = known_led x

-- the first i bytes are k records, and what the rest gives, the whole gives
pub record Sofar {V : Type 0} (m : Meaning V) (a : List ℕ) (i k : ℕ) : Type 0 where
  pub within : i ≤ length a
  pub few : k ≤ i
  pub records : List Record
  pub table : List (TableRow V)
  pub bytes : take i a ≡ written records
  pub whole : AllWhole m records table
  pub count : length records ≡ k
  pub falls : (f : Fault) → Refuses m i k (drop i a) f → Refuses m 0 0 a f

pub begun : {V : Type 0} (m : Meaning V) (a : List ℕ) → Sofar m a 0 0
begun m a = record { within = omega arith; few = omega arith; records = []; table = []; bytes = refl; whole = no_rows; count = refl; falls = λ f x. x }

module _ {V : Type 0} {m : Meaning V} {a : List ℕ} {i k : ℕ} (s : Sofar m a i k) where
  led_in : {size : ℕ} → Led m (drop i a) size → size ≤ length a - i
  led_in {size} x =
      let e = x.entry in
      let r = record_of e.tag (joined e.spellings) in
      let l = ap length x.is ∙ length-append r (drop size (drop i a)) in
      let q = record_length e.tag (joined e.spellings) x.whole.good.six in
      let z = x.long in
      let w = length-drop i a in
      omega arith

  pub one_more : (size : ℕ) → Led m (drop i a) size → Sofar m a (i + size) (k + 1)
  one_more size x =
      let e = x.entry in
      let r = record_of e.tag (joined e.spellings) in
      let z = x.long in
      let inn = led_in x in
      let lr : length r ≡ size = record_length e.tag (joined e.spellings) x.whole.good.six ∙ sym x.long in
      let front : take size (drop i a) ≡ r = ap (take size) x.is ∙ take_at r (drop size (drop i a)) size lr in
      record {
        within = omega (arith, s.within);
        few = omega (arith, s.few);
        records = s.records ++ (e ∷ []);
        table = s.table ++ (x.row ∷ []);
        bytes = take-add i size a ∙ ap₂ (λ (p q : List ℕ). p ++ q) s.bytes (front ∙ sym (append-nil r)) ∙ sym (written_append s.records (e ∷ []));
        whole = all_append s.whole (more x.whole no_rows);
        count = length_push s.records e ∙ ap (λ j. j + 1) s.count;
        falls = λ f y. s.falls f (later e x.row (drop size (drop i a)) x.is x.whole (subst (λ j. Refuses m (i + j) (k + 1) (drop size (drop i a)) f) x.long (rw (drop-drop size i a) y)));
      }

  pub listed : length a ≤ i → Listed m a k
  listed h = record { records = s.records; table = s.table; bytes = sym (take_all i a h) ∙ s.bytes; whole = s.whole; count = s.count }
