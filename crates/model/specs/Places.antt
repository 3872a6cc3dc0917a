-- Records whose tags and lengths are as a record's must be.
use Rattle.std.specs.Prelude.{◌≡◌, ◌≤◌, List, [], ◌∷◌, length}
use Rattle.model.specs.Records.{Record, joined}

abbrev pub Sized : List Record → Type 0
Sized [] = Unit {0}
Sized (e ∷ l) = (length e.tag ≡ 6) × (1 ≤ length (joined e.spellings)) × (length (joined e.spellings) ≤ 99985) × Sized l
