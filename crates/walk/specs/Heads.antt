-- What a header says, and why bytes do not begin with one.
use Rattle.std.specs.Prelude.{◌≡◌, ℕ, ◌+◌, ◌-◌, ◌<◌, ◌≤◌, Bool, true, false, List, length, take, drop, Ok, Err, Result}
use Rattle.refusal.specs.declared.fault.Cause.TheVariants.{CutOff, BadTag, BadLength}
use Rattle.refusal.specs.declared.fault.Fault.{Fault}
use Rattle.refusal.specs.Faults.{fault}
use Rattle.model.specs.Records.{GoodTag}
use Rattle.model.specs.Walks.{Says}
use Rattle.walk.specs.declared.header.Header.{Header}

-- a test that says whether P holds
abbrev pub Tells : Bool → Type 0 → Type 0
Tells true P = P
Tells false P = P → ⊥

-- the bytes begin with this header, and the data that it promises is there
pub record Headed (a : List ℕ) (h : Header) : Type 0 where
  pub long : 11 ≤ length a
  pub good : GoodTag (take 6 a)
  pub tag : h.tag ≡ take 6 a
  pub says : Says (take 5 (drop 6 a)) (length h.data.now)
  pub data_is : h.data.now ≡ take (length h.data.now) (drop 11 a)
  pub there : length h.data.now ≤ length a - 11

-- or they do not: refusals 2, 3, 4 and 2 again, at the place where they begin
pub data Headless (at : ℕ) (a : List ℕ) : Fault → Type 0 where
  short : length a < 11 → Headless at a (fault CutOff at 0 0)
  tag : 11 ≤ length a → (GoodTag (take 6 a) → ⊥) → Headless at a (fault BadTag at 0 0)
  digits : 11 ≤ length a → GoodTag (take 6 a) → ((k : ℕ) → Says (take 5 (drop 6 a)) k → ⊥) → Headless at a (fault BadLength (at + 6) 0 0)
  end : 11 ≤ length a → GoodTag (take 6 a) → (k : ℕ) → Says (take 5 (drop 6 a)) k → length a - 11 < k → Headless at a (fault CutOff at 0 0)

abbrev pub Heads : ℕ → List ℕ → Result Header Fault → Type 0
Heads at a (Ok h) = Headed a h
Heads at a (Err f) = Headless at a f
