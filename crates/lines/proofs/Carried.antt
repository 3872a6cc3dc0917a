-- What a text was made to be, carried over to equal parts and to one more byte.
use Rattle.std.proofs.Common.{◌≡◌, ℕ, ◌+◌, ◌<◌, cond, ltb, List, ◌++◌, map, length, get_or, take, IfOk, string_bytes, Result, String, sym, ap, ◌∙◌, subst, arith, lit<}
use lib.Utf8.{encode}
use Rattle.std.proofs.lemmas.List.{map_more}
use Rattle.std.proofs.lemmas.Bool.{cond_both, ltb-true}
use Rattle.std.proofs.lemmas.Str.{encode_ascii}
use Rattle.std.specs.declared.alloc.AllocError.{AllocError}
use Rattle.std.specs.declared.alloc.Global.{Global}
use Rattle.lines.specs.Lines.{shown}

pub carried : {X : Type 0} (line : X → List ℕ) (r : Result (String Global) AllocError) {x y : X} → x ≡ y → IfOk r (λ s. string_bytes s ≡ line x) → IfOk r (λ s. string_bytes s ≡ line y)
carried line r e h = subst (λ z. IfOk r (λ s. string_bytes s ≡ line z)) e h

-- what is printed of a byte is ASCII
pub shown_ascii : (b : ℕ) → shown b < 128
shown_ascii b =
    let below : ℕ → Type 0 = λ x. x < 128 in
    cond_both (ltb b 32) 63 (cond (ltb b 127) b 63) below (λ _. lit< tt)
    (λ _. cond_both (ltb b 127) b 63 below (λ e. omega (arith, ltb-true b 127 e)) (λ _. lit< tt))

-- one more byte of the tag as one more character
pub grown : (tag : List ℕ) (i ch : ℕ) (bytes : List ℕ) → i < length tag → ch ≡ shown (get_or tag i 0) → bytes ≡ map shown (take i tag) ++ encode ch → bytes ≡ map shown (take (i + 1) tag)
grown tag i ch bytes l e h =
    let front : List ℕ → List ℕ = λ x. map shown (take i tag) ++ x in
    h ∙ (ap (λ x. front (encode x)) e ∙ (ap front (encode_ascii (shown (get_or tag i 0)) (shown_ascii (get_or tag i 0))) ∙ sym (map_more shown tag i 0 l)))
