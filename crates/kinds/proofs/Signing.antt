-- Reading and spelling a number with a sign.
use Rattle.std.proofs.Common.{◌≡◌, ℕ, ◌+◌, ◌-◌, ◌^◌, ◌<◌, ◌≤◌, true, false, eqb, List, [], ◌∷◌, ◌++◌, length, get_or, drop, set, ℤ, pos, negsuc, neg_ℤ, nat_abs, Some, None, Ok, Err, Option, Result, sym, refl, ap, ◌∙◌, inl, inr, append-nil, arith, ltb-true, eq-eqb, ne_eqb, eqb-true}
use lib.Signed.{lt_z}
use borrow.Rule.Slice.PartMut.{put_mid}
use Rattle.std.proofs.lemmas.List.{drop_all}
use Rattle.refusal.specs.declared.fault.Fault.{Fault}
use Rattle.kind.specs.Kinds.{Spelled}
use Rattle.kinds.specs.Bytes.{gate}
use Rattle.kinds.specs.Numbers.{number, number_is, number_under}
use Rattle.kinds.specs.Signs.{led, signed, plus, minus, SignedIs, signed_is, no_both, pos_is, neg_is}
use Rattle.kinds.proofs.Horner.{tens}

pub short : (w low high : ℕ) (s : List ℕ) (n : ℕ) → w ≤ 18 → number w low high s ≡ Some n → n < 10 ^ 18
short w low high s n h e = omega (arith, number_under w low high s n e, tens w 18 h)

module _ (w below above : ℕ) where
  pub signed_empty : (s : List ℕ) → length s ≡ 0 → signed w below above s ≡ None
  unfolding signed
  signed_empty [] e = refl
  signed_empty (c ∷ s) e = let bad : ⊥ = omega arith in elim bad [ ]

  pub signed_plus : (s : List ℕ) → get_or s 0 0 ≡ 43 → signed w below above s ≡ plus (number w 0 above (drop 1 s))
  unfolding signed
  signed_plus s e = rw (eq-eqb (get_or s 0 0) 43 e) refl

  pub signed_minus : (s : List ℕ) → get_or s 0 0 ≡ 45 → signed w below above s ≡ minus (number w 1 below (drop 1 s))
  unfolding signed
  signed_minus s e = rw e refl

  pub signed_other : (s : List ℕ) → (get_or s 0 0 ≡ 43 → ⊥) → (get_or s 0 0 ≡ 45 → ⊥) → signed w below above s ≡ None
  unfolding signed
  signed_other s a b = rw (ne_eqb (get_or s 0 0) 43 a, ne_eqb (get_or s 0 0) 45 b) refl

  -- the same of a first byte and what stands behind it
  pub first_plus : (x : ℕ) (r s : List ℕ) → s ≡ x ∷ r → x ≡ 43 → signed w below above s ≡ plus (number w 0 above r)
  first_plus x r s e h = ap (signed w below above) e ∙ signed_plus (x ∷ r) h

  pub first_minus : (x : ℕ) (r s : List ℕ) → s ≡ x ∷ r → x ≡ 45 → signed w below above s ≡ minus (number w 1 below r)
  first_minus x r s e h = ap (signed w below above) e ∙ signed_minus (x ∷ r) h

  pub first_other : (x : ℕ) (r s : List ℕ) → s ≡ x ∷ r → (x ≡ 43 → ⊥) → (x ≡ 45 → ⊥) → signed w below above s ≡ None
  first_other x r s e a b = ap (signed w below above) e ∙ signed_other (x ∷ r) a b

-- a spelling behind a sign
module _ {V : Type 0} (f : List ℕ → Option V) (sign : ℕ) where
  pub led_is : (s : List ℕ) (v : V) → led sign f s ≡ Some v → (get_or s 0 0 ≡ sign) × (f (drop 1 s) ≡ Some v)
  led_is s v e = let g = gate (eqb (get_or s 0 0) sign) e in (eqb-true (get_or s 0 0) sign g.0, g.1)

  pub led_from : (s : List ℕ) (v : V) → get_or s 0 0 ≡ sign → f (drop 1 s) ≡ Some v → led sign f s ≡ Some v
  led_from s v h e = rw (eq-eqb (get_or s 0 0) sign h) e

  pub led_put : (out new : List ℕ) (v : V) → 1 ≤ length out → f new ≡ Some v → led sign f (set (put_mid 1 (length out - 1) out new) 0 sign) ≡ Some v
  led_put [] new v h e = let bad : ⊥ = omega arith in elim bad [ ]
  led_put (x ∷ r) new v h e =
      let d : drop (length (x ∷ r) - 1) r ≡ [] = drop_all _ r (omega arith) in
      led_from (sign ∷ (new ++ drop (length (x ∷ r) - 1) r)) v refl (ap (λ z. f (new ++ z)) d ∙ ap f (append-nil new) ∙ e)

filled : (s : List ℕ) → 0 < get_or s 0 0 → length s ≡ length (drop 1 s) + 1
filled [] h = omega arith
filled (c ∷ s) h = omega arith

pub led_long : (w low high sign : ℕ) (s : List ℕ) (v : ℕ) → 0 < sign → led sign (number w low high) s ≡ Some v → length s ≡ w + 1
led_long w low high sign s v h e =
    let p = led_is (number w low high) sign s v e in
    let l = (number_is w low high (drop 1 s) v p.1).long in
    let h' : 0 < get_or s 0 0 = omega (arith, p.0) in
    omega (arith, filled s h')

pub below_zero : (v : ℤ) → lt_z v (pos 0) ≡ true → (v ≡ neg_ℤ (pos (nat_abs v))) × (1 ≤ nat_abs v)
below_zero (negsuc n) h = (refl, omega arith)
below_zero (pos n) h = let l = ltb-true n 0 h in let bad : ⊥ = omega arith in elim bad [ ]

pub from_zero : (v : ℤ) → lt_z v (pos 0) ≡ false → v ≡ pos (nat_abs v)
from_zero (pos n) h = refl
from_zero (negsuc n) h = let z : ◌≡◌ {A = ℕ} 0 1 = cc in let bad : ⊥ = omega arith in elim bad [ ]

module _ (w below above : ℕ) (v : ℤ) (n : ℕ) (old new : List ℕ) where
  at_plus : (s : List ℕ) → v ≡ pos n → SignedIs w below above s v → led 43 (number w 0 above) s ≡ Some n
  at_plus s e (inl p) = led_from (number w 0 above) 43 s n (ap (λ l. get_or l 0 0) p.1) (p.3 ∙ ap Some (pos_is _ _ (sym p.2 ∙ e)))
  at_plus s e (inr p) = let bad = no_both n p.0 (number_is w 1 below _ _ p.3).least (sym e ∙ p.2) in elim bad [ ]

  at_minus : (s : List ℕ) → 1 ≤ n → v ≡ neg_ℤ (pos n) → SignedIs w below above s v → led 45 (number w 1 below) s ≡ Some n
  at_minus s h e (inr p) = led_from (number w 1 below) 45 s n (ap (λ l. get_or l 0 0) p.1) (p.3 ∙ ap Some (neg_is _ _ (sym p.2 ∙ e)))
  at_minus s h e (inl p) = let bad = no_both p.0 n h (sym p.2 ∙ e) in elim bad [ ]

  pub plus_spelled : v ≡ pos n → (r : Result (Unit {0}) Fault) → Spelled (led 43 (number w 0 above)) n old new r → Spelled (signed w below above) v old new r
  plus_spelled e (Ok u) p = let q = led_is (number w 0 above) 43 new n p in signed_plus w below above new q.0 ∙ ap plus q.1 ∙ ap Some (sym e)
  plus_spelled e (Err x) p = (p.0, p.1, λ s l q. p.2 s l (at_plus s e (signed_is w below above s v q)))

  pub minus_spelled : 1 ≤ n → v ≡ neg_ℤ (pos n) → (r : Result (Unit {0}) Fault) → Spelled (led 45 (number w 1 below)) n old new r → Spelled (signed w below above) v old new r
  minus_spelled h e (Ok u) p = let q = led_is (number w 1 below) 45 new n p in signed_minus w below above new q.0 ∙ ap minus q.1 ∙ ap Some (sym e)
  minus_spelled h e (Err x) p = (p.0, p.1, λ s l q. p.2 s l (at_minus s h e (signed_is w below above s v q)))
