-- The lines of a listing, as bytes.
use Rattle.std.specs.Prelude.{ℕ, cond, List, [], ◌∷◌, ◌++◌, map, codes, decimal, nat_lt}
use Rattle.refusal.specs.declared.fault.Fault.{Fault}
use Rattle.refusal.specs.Faults.{number, layer, layer_number}

-- a byte as it is printed: itself from 0x20 to 0x7E, a question mark otherwise
abbrev pub shown : ℕ → ℕ
shown b = cond (nat_lt b 32) 63 (cond (nat_lt b 127) b 63)

-- a word and three numbers in decimal, a space before each
abbrev pub three : List ℕ → ℕ → ℕ → ℕ → List ℕ
three word a b c = word ++ (codes " " ++ (decimal a ++ (codes " " ++ (decimal b ++ (codes " " ++ decimal c)))))

-- a record's line with this text between the brackets
abbrev pub bracketed : ℕ → ℕ → ℕ → List ℕ → List ℕ
bracketed n place length text = codes "R " ++ (decimal n ++ (codes " " ++ (decimal place ++ (codes " " ++ (decimal length ++ (codes " [" ++ (text ++ codes "]")))))))

-- R, the record's number, its header's place, its data's length, its tag
abbrev pub record_line : ℕ → ℕ → ℕ → List ℕ → List ℕ
record_line n place length tag = bracketed n place length (map shown tag)

-- F, the field's number, its place, its width
abbrev pub field_line : ℕ → ℕ → ℕ → List ℕ
field_line n place width = three (codes "F") n place width

-- E, the number of records, the number of bytes
abbrev pub end_line : ℕ → ℕ → List ℕ
end_line records bytes = codes "E " ++ (decimal records ++ (codes " " ++ decimal bytes))

-- X, the refusal's number, its layer, its place
abbrev pub refusal_line : Fault → List ℕ
refusal_line f = three (codes "X") (number f.cause) (layer_number (layer f.cause)) f.place

-- a text with one more line, which a newline ends
abbrev pub with_line : List ℕ → List ℕ → List ℕ
with_line text line = (text ++ line) ++ (10 ∷ [])
