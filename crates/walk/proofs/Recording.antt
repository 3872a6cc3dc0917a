-- The first record of some bytes: its refusals get its number, and what was read is a record.
use Rattle.std.proofs.Common.{◌≡◌, ℕ, ◌+◌, ◌<◌, Bool, true, false, List, [], length, take, drop, Ok, Err, Option, subst}
use Rattle.book.specs.Meaning.{Meaning}
use Rattle.refusal.specs.declared.fault.Fault.{Fault}
use Rattle.refusal.specs.Faults.{in_record}
use Rattle.model.specs.declared.seen.Read.{Read}
use Rattle.model.specs.Walks.{Fails, Refuses}
use Rattle.model.specs.Walks.Fails.{ends, unread, past, later}
use Rattle.model.specs.Walks.Refuses.{short as cut_short}
use Rattle.model.specs.Looks.{Fieldeds, Led}
use Rattle.model.proofs.Leading.{no_tag, no_length, no_end, bad_data, any_led}
use Rattle.walk.specs.declared.header.Header.{Header}
use Rattle.walk.specs.Heads.{Headed, Headless}
use Rattle.walk.specs.Heads.Headless.{short, tag, digits, end}

-- a refusal inside data is the same in record 0 and in record n, but for the number
pub renumbered : {V : Type 0} {m : Meaning V} {draft : Bool} {base : ℕ} {tag : List ℕ} (n : ℕ) {p d : List ℕ} {k : ℕ} {f : Fault} → Fails m draft 0 tag base p d k f → Fails m draft n tag base p d k (in_record f n)
renumbered n (ends {name = nm} {w = w} a l h) = ends {name = nm} {w = w} a l h
renumbered n (unread {name = nm} s rest a e r) = unread {name = nm} s rest a e r
renumbered n (past a h) = past a h
renumbered n (later {name = nm} {v = v} s rest a e r f) = later {name = nm} {v = v} s rest a e r (renumbered n f)

module _ {V : Type 0} (m : Meaning V) (a : List ℕ) (at n : ℕ) where
  pub headless : {f : Fault} → 0 < length a → Headless at a f → Refuses m at n a (in_record f n)
  headless p (short l) = cut_short p l
  headless p (tag l b) = no_tag m a at n l b
  headless p (digits l g s) = no_length m a at n l g s
  headless p (end l g k s e) = no_end m a at n l g k s e

  module _ (h : Header) (x : Headed a h) where
    pub headed_bad : {M : Type 0} (stands : List ℕ → List ℕ → M → Type 0) (f : Fault) → Fieldeds m stands false 0 h.tag (at + 11) h.data.now (Err f) → Refuses m at n a (in_record f n)
    headed_bad stands f y =
        let k : m.knows (take 6 a) ≡ true = subst (λ t. m.knows t ≡ true) x.tag y.0 in
        let f1 : Fails m false 0 (take 6 a) (at + 11) [] h.data.now 0 f = subst (λ t. Fails m false 0 t (at + 11) [] h.data.now 0 f) x.tag y.1 in
        let f2 : Fails m false 0 (take 6 a) (at + 11) [] (take (length h.data.now) (drop 11 a)) 0 f = subst (λ d. Fails m false 0 (take 6 a) (at + 11) [] d 0 f) x.data_is f1 in
        bad_data m a at n x.long x.good (length h.data.now) x.says x.there k (renumbered n f2)

    pub headed_led : {M : Type 0} (stands : List ℕ → List ℕ → M → Type 0) (o : Option (Read M)) → Fieldeds m stands false 0 h.tag (at + 11) h.data.now (Ok o) → Led m a (11 + length h.data.now)
    headed_led stands o y =
        let f1 : Fieldeds m stands false 0 (take 6 a) (at + 11) h.data.now (Ok o) = subst (λ t. Fieldeds m stands false 0 t (at + 11) h.data.now (Ok o)) x.tag y in
        let f2 : Fieldeds m stands false 0 (take 6 a) (at + 11) (take (length h.data.now) (drop 11 a)) (Ok o) = subst (λ d. Fieldeds m stands false 0 (take 6 a) (at + 11) d (Ok o)) x.data_is f1 in
        any_led m a at 0 x.long x.good (length h.data.now) x.says x.there stands o f2
