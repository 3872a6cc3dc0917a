-- Tests of each byte, and small facts about tests and options.
use Rattle.std.specs.Prelude.{◌≡◌, ℕ, Bool, true, false, cond, ◌&&◌, List, [], ◌∷◌, ◌++◌, length, Some, None, Option, nat_le, refl}
use Rattle.std.specs.List.{list_all}
use Rattle.std.proofs.Common.{arith, leb-true}
use Rattle.kind.specs.Options.{never}

-- each byte lies from low to high
abbrev pub within : ℕ → ℕ → List ℕ → Bool
within low high s = list_all (λ c. nat_le low c && nat_le c high) s

-- each byte is a space
abbrev pub spaces : List ℕ → Bool
spaces s = within 32 32 s

-- what a test lets through
pub gate : {A : Type 0} (b : Bool) {x : Option A} {v : A} → cond b x None ≡ Some v → (b ≡ true) × (x ≡ Some v)
gate true e = (refl, e)
gate false e = never e

pub and_parts : (x y : Bool) → (x && y) ≡ true → (x ≡ true) × (y ≡ true)
and_parts true y e = (refl, e)
and_parts false y e = let z : ◌≡◌ {A = ℕ} 0 1 = cc in let bad : ⊥ = omega arith in elim bad [ ]

-- spaces of one length are the same
pub spaces_same : (s t : List ℕ) → spaces s ≡ true → spaces t ≡ true → length s ≡ length t → s ≡ t
spaces_same [] [] a b e = refl
spaces_same [] (y ∷ t) a b e = let bad : ⊥ = omega arith in elim bad [ ]
spaces_same (x ∷ s) [] a b e = let bad : ⊥ = omega arith in elim bad [ ]
spaces_same (x ∷ s) (y ∷ t) a b e =
    let p = and_parts (nat_le 32 x && nat_le x 32) (spaces s) a in
    let q = and_parts (nat_le 32 y && nat_le y 32) (spaces t) b in
    let i = and_parts (nat_le 32 x) (nat_le x 32) p.0 in
    let j = and_parts (nat_le 32 y) (nat_le y 32) q.0 in
    let h : x ≡ y = omega (arith, leb-true 32 x i.0, leb-true x 32 i.1, leb-true 32 y j.0, leb-true y 32 j.1) in
    let r : s ≡ t = spaces_same s t p.1 q.1 (omega arith) in
    cc

pub and_both : (x y : Bool) → x ≡ true → y ≡ true → (x && y) ≡ true
and_both x y a b = rw (a, b) refl

-- bytes behind bytes
pub within_parts : (low high : ℕ) (s t : List ℕ) → within low high (s ++ t) ≡ true → (within low high s ≡ true) × (within low high t ≡ true)
within_parts low high [] t e = (refl, e)
within_parts low high (c ∷ s) t e =
    let p = and_parts (nat_le low c && nat_le c high) (within low high (s ++ t)) e in
    let q = within_parts low high s t p.1 in
    (and_both (nat_le low c && nat_le c high) (within low high s) p.0 q.0, q.1)

pub within_both : (low high : ℕ) (s t : List ℕ) → within low high s ≡ true → within low high t ≡ true → within low high (s ++ t) ≡ true
within_both low high [] t a b = b
within_both low high (c ∷ s) t a b =
    let p = and_parts (nat_le low c && nat_le c high) (within low high s) a in
    and_both (nat_le low c && nat_le c high) (within low high (s ++ t)) p.0 (within_both low high s t p.1 b)
