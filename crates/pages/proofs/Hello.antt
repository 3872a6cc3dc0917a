-- The pages of unknown tags.
use Rattle.std.proofs.Common.{◌≡◌, ℕ, zero, suc, ◌+◌, ◌<◌, ◌≤◌, List, [], ◌∷◌, get_or, take, codes, refl, arith}
use Rattle.model.specs.Records.{GoodTag, record_of}
use Rattle.model.specs.Records.Value.{raw}
use Rattle.model.specs.Records.Begun.{lump}
use Rattle.model.specs.Records.Full.{filled}
use Rattle.model.specs.Records.AllWhole.{none as no_rows, more}
use Rattle.model.specs.Walks.{Says}
use Rattle.model.specs.Walks.Refuses.{cutoff, badlength}
use Rattle.model.proofs.Lists.{never, same_number}
use Rattle.pages.specs.Pages.{Holds, hello, hello_record, hello_field}
use Rattle.pages.specs.Pages.Page.{area, refused}
use Rattle.refusal.specs.declared.fault.Cause.TheVariants.{CutOff, BadLength}
use Rattle.refusal.specs.Faults.{fault}

abbrev tag : List ℕ
tag = codes "HELLO "

plain : (i : ℕ) → i < 6 → (32 ≤ get_or tag i 0) × (get_or tag i 0 ≤ 126)
plain zero h = (omega arith, omega arith)
plain (suc zero) h = (omega arith, omega arith)
plain (suc (suc zero)) h = (omega arith, omega arith)
plain (suc (suc (suc zero))) h = (omega arith, omega arith)
plain (suc (suc (suc (suc zero)))) h = (omega arith, omega arith)
plain (suc (suc (suc (suc (suc zero))))) h = (omega arith, omega arith)
plain (suc (suc (suc (suc (suc (suc i)))))) h = let bad : ⊥ = omega arith in never bad

after : (i : ℕ) → i + 1 < 6 → get_or tag i 0 ≡ 32 → get_or tag (i + 1) 0 ≡ 32
after zero h e = let bad : ⊥ = omega arith in never bad
after (suc zero) h e = let bad : ⊥ = omega arith in never bad
after (suc (suc zero)) h e = let bad : ⊥ = omega arith in never bad
after (suc (suc (suc zero))) h e = let bad : ⊥ = omega arith in never bad
after (suc (suc (suc (suc zero)))) h e = let bad : ⊥ = omega arith in never bad
after (suc (suc (suc (suc (suc i))))) h e = let bad : ⊥ = omega arith in never bad

good : GoodTag tag
good = record { six = refl; plain = plain; first = λ e. let z : ◌≡◌ {A = ℕ} 72 32 = e in omega arith; after = after }

pub empty_area : Holds (area [] [] [])
empty_area = ([], record { bytes = refl; whole = no_rows; within = omega arith }, refl)

pub hello_area : Holds (area hello (hello_record ∷ []) (hello_field ∷ []))
unfolding record_of
hello_area = (
  record { tag = tag; fields = record { name = 0; value = raw (codes "abc") } ∷ [] } ∷ [],
  record { bytes = refl; whole = more (record { good = good; begun = lump refl (omega arith); full = filled refl (omega arith); short = omega arith; named = refl }) no_rows; within = omega arith },
  refl,
)

pub hello_cut : Holds (refused (take 13 hello) (fault CutOff 0 0 0))
hello_cut = cutoff tag (codes "00003") (codes "ab") 3 refl good (refl, omega arith, omega arith) (omega arith)

no_length : (k : ℕ) → Says (codes "00000") k → ⊥
no_length k s = let b = s.1 in let c = s.2 in let e : 0 ≡ k = same_number 0 k (omega arith) (omega arith) s.0 in omega arith

pub hello_none : Holds (refused (codes "HELLO 00000") (fault BadLength 6 0 0))
hello_none = badlength tag (codes "00000") [] refl good refl no_length
