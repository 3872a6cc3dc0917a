-- Why bytes do not read: one constructor for each refusal of a walk.
use Rattle.std.specs.Prelude.{◌≡◌, ℕ, ◌+◌, ◌<◌, ◌≤◌, Bool, true, false, List, [], ◌++◌, length, Some, None}
use Rattle.book.specs.Meaning.{Meaning, field}
use Rattle.refusal.specs.declared.fault.Cause.TheVariants.{CutOff, BadTag, BadLength, Unread, EndsEarly, PastDone}
use Rattle.refusal.specs.declared.fault.Fault.{Fault}
use Rattle.refusal.specs.Faults.{fault}
use Rattle.model.specs.Records.{Record, TableRow, GoodTag, Whole, joined, digits5, record_of}

-- the five bytes are the digits of a length from 1 to 99985
abbrev pub Says : List ℕ → ℕ → Type 0
Says s k = (s ≡ digits5 k) × (1 ≤ k) × (k ≤ 99985)

module _ {V : Type 0} (m : Meaning V) where
  -- `Fails may n tag base p d k f`: in record n, whose data begins at base, the data is p and then d, p holds k fields, and reading d gives f.
  -- A draft may end between two fields, so that there the data ends too early only inside a field.
  pub data Fails (draft : Bool) (n : ℕ) (tag : List ℕ) (base : ℕ) : List ℕ → List ℕ → ℕ → Fault → Type 0 where
    ends : {p d : List ℕ} {k name w : ℕ} → m.asks tag p ≡ Some (field name w) → length d < w → (draft ≡ true → 0 < length d) → Fails draft n tag base p d k (fault EndsEarly (base + length p) n k)
    unread : {p d : List ℕ} {k name : ℕ} (s rest : List ℕ) → m.asks tag p ≡ Some (field name (length s)) → d ≡ s ++ rest → m.reads tag p s ≡ None → Fails draft n tag base p d k (fault Unread (base + length p) n k)
    past : {p d : List ℕ} {k : ℕ} → m.asks tag p ≡ None → 0 < length d → Fails draft n tag base p d k (fault PastDone (base + length p) n 0)
    later : {p d : List ℕ} {k name : ℕ} {v : V} {f : Fault} (s rest : List ℕ) → m.asks tag p ≡ Some (field name (length s)) → d ≡ s ++ rest → m.reads tag p s ≡ Some v → Fails draft n tag base (p ++ s) rest (k + 1) f → Fails draft n tag base p d k f

  -- `Refuses at n a f`: the bytes a, which begin with record n at this place, give f.
  pub data Refuses : ℕ → ℕ → List ℕ → Fault → Type 0 where
    short : {at n : ℕ} {a : List ℕ} → 0 < length a → length a < 11 → Refuses at n a (fault CutOff at n 0)
    badtag : {at n : ℕ} {a : List ℕ} (tag rest : List ℕ) → a ≡ tag ++ rest → length tag ≡ 6 → 5 ≤ length rest → (GoodTag tag → ⊥) → Refuses at n a (fault BadTag at n 0)
    badlength : {at n : ℕ} {a : List ℕ} (tag five rest : List ℕ) → a ≡ tag ++ (five ++ rest) → GoodTag tag → length five ≡ 5 → ((k : ℕ) → Says five k → ⊥) → Refuses at n a (fault BadLength (at + 6) n 0)
    cutoff : {at n : ℕ} {a : List ℕ} (tag five rest : List ℕ) (k : ℕ) → a ≡ tag ++ (five ++ rest) → GoodTag tag → Says five k → length rest < k → Refuses at n a (fault CutOff at n 0)
    inside : {at n : ℕ} {a : List ℕ} {f : Fault} (tag d rest : List ℕ) → a ≡ record_of tag d ++ rest → GoodTag tag → 1 ≤ length d → length d ≤ 99985 → m.knows tag ≡ true → Fails false n tag (at + 11) [] d 0 f → Refuses at n a f
    later : {at n : ℕ} {a : List ℕ} {f : Fault} (e : Record) (r : TableRow V) (rest : List ℕ) → a ≡ record_of e.tag (joined e.spellings) ++ rest → Whole m e r → Refuses (at + (11 + length (joined e.spellings))) (n + 1) rest f → Refuses at n a f
