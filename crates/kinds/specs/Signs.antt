-- A number with a sign: no minus zero.
use Rattle.std.specs.Prelude.{◌≡◌, ℕ, zero, suc, ◌+◌, ◌≤◌, Bool, true, false, cond, ◌⊎◌, List, [], ◌∷◌, length, drop, ℤ, pos, neg_ℤ, Some, None, Option, ◌==◌, ◌≢◌, slice_index, refl}
use Rattle.std.proofs.Common.{sym, ◌∙◌, ap, inl, inr, arith, eqb-true}
use Rattle.std.proofs.Math.IntN.{neg_ℤ-neg_ℤ}
use Rattle.kind.specs.Kinds.{Laws}
use Rattle.kind.specs.Options.{never, some_is}
use Rattle.kinds.specs.Numbers.{number, number_is, number_laws}

abbrev pub plus : Option ℕ → Option ℤ
plus None = None
plus (Some n) = Some (pos n)

abbrev pub minus : Option ℕ → Option ℤ
minus None = None
minus (Some n) = Some (neg_ℤ (pos n))

-- a byte, and then what a kind reads
abbrev pub led : {V : Type 0} → ℕ → (List ℕ → Option V) → List ℕ → Option V
led c f s = cond (slice_index s 0 == c) (f (drop 1 s)) None

-- a plus and w digits to above, or a minus and w digits from 1 to below
unfoldable pub signed : ℕ → ℕ → ℕ → List ℕ → Option ℤ
signed w below above s = cond (slice_index s 0 == 43) (plus (number w 0 above (drop 1 s))) (cond (slice_index s 0 == 45) (minus (number w 1 below (drop 1 s))) None)

-- how a value was read
abbrev pub SignedIs : ℕ → ℕ → ℕ → List ℕ → ℤ → Type 0
SignedIs w below above s v = ((n : ℕ) × (s ≡ 43 ∷ drop 1 s) × (v ≡ pos n) × (number w 0 above (drop 1 s) ≡ Some n)) ⊎ ((n : ℕ) × (s ≡ 45 ∷ drop 1 s) × (v ≡ neg_ℤ (pos n)) × (number w 1 below (drop 1 s) ≡ Some n))

headed : (s : List ℕ) (c : ℕ) → (slice_index s 0 == suc c) ≡ true → s ≡ suc c ∷ drop 1 s
headed [] c e = let h = eqb-true 0 (suc c) e in let bad : ⊥ = omega arith in elim bad [ ]
headed (b ∷ s) c e = let h : b ≡ suc c = eqb-true b (suc c) e in ap (λ x. x ∷ s) h

plus_is : (x : Option ℕ) (v : ℤ) → plus x ≡ Some v → (n : ℕ) × (v ≡ pos n) × (x ≡ Some n)
plus_is None v e = never e
plus_is (Some n) v e = (n, sym (some_is e), refl)

minus_is : (x : Option ℕ) (v : ℤ) → minus x ≡ Some v → (n : ℕ) × (v ≡ neg_ℤ (pos n)) × (x ≡ Some n)
minus_is None v e = never e
minus_is (Some n) v e = (n, sym (some_is e), refl)

by_sign : (w below above : ℕ) (s : List ℕ) (v : ℤ) (b c : Bool) → (slice_index s 0 == 43) ≡ b → (slice_index s 0 == 45) ≡ c → cond b (plus (number w 0 above (drop 1 s))) (cond c (minus (number w 1 below (drop 1 s))) None) ≡ Some v → SignedIs w below above s v
by_sign w below above s v true c p q e = let x = plus_is (number w 0 above (drop 1 s)) v e in inl (x.0, headed s 42 p, x.1, x.2)
by_sign w below above s v false true p q e = let x = minus_is (number w 1 below (drop 1 s)) v e in inr (x.0, headed s 44 q, x.1, x.2)
by_sign w below above s v false false p q e = never e

pub signed_is : (w below above : ℕ) (s : List ℕ) (v : ℤ) → signed w below above s ≡ Some v → SignedIs w below above s v
unfolding signed
signed_is w below above s v e = by_sign w below above s v _ _ refl refl e

signed_long : (w below above : ℕ) (s : List ℕ) (v : ℤ) → SignedIs w below above s v → length s ≡ w + 1
signed_long w below above s v (inl p) = let l = (number_is w 0 above (drop 1 s) p.0 p.3).long in ap length p.1 ∙ omega arith
signed_long w below above s v (inr p) = let l = (number_is w 1 below (drop 1 s) p.0 p.3).long in ap length p.1 ∙ omega arith

-- the sign of a value is one
pub no_both : (m n : ℕ) → 1 ≤ n → pos m ≢ neg_ℤ (pos n)
no_both m (suc n) h e = let z : ◌≡◌ {A = ℕ} 0 1 = cc in omega arith
no_both m zero h e = omega arith

pub pos_is : (m n : ℕ) → pos m ≡ pos n → m ≡ n
pos_is m n e = cc

pub neg_is : (m n : ℕ) → neg_ℤ (pos m) ≡ neg_ℤ (pos n) → m ≡ n
neg_is m n e = pos_is m n (sym (neg_ℤ-neg_ℤ (pos m)) ∙ ap neg_ℤ e ∙ neg_ℤ-neg_ℤ (pos n))

module _ (w below above : ℕ) (some : 1 ≤ w) (few : w ≤ 18) where
  tails : (s t : List ℕ) (c : ℕ) → s ≡ c ∷ drop 1 s → t ≡ c ∷ drop 1 t → drop 1 s ≡ drop 1 t → s ≡ t
  tails s t c p q e = p ∙ ap (λ r. c ∷ r) e ∙ sym q

  signed_once : (s t : List ℕ) (v : ℤ) → SignedIs w below above s v → SignedIs w below above t v → s ≡ t
  signed_once s t v (inl p) (inl q) = tails s t 43 p.1 q.1 ((number_laws w 0 above some few).once _ _ p.0 p.3 (q.3 ∙ ap Some (pos_is _ _ (sym q.2 ∙ p.2))))
  signed_once s t v (inl p) (inr q) = let bad = no_both p.0 q.0 (number_is w 1 below _ _ q.3).least (sym p.2 ∙ q.2) in elim bad [ ]
  signed_once s t v (inr p) (inl q) = let bad = no_both q.0 p.0 (number_is w 1 below _ _ p.3).least (sym q.2 ∙ p.2) in elim bad [ ]
  signed_once s t v (inr p) (inr q) = tails s t 45 p.1 q.1 ((number_laws w 1 below some few).once _ _ p.0 p.3 (q.3 ∙ ap Some (neg_is _ _ (sym q.2 ∙ p.2))))

  pub signed_laws : Laws (w + 1) (signed w below above)
  signed_laws = record {
    low = omega arith;
    high = omega arith;
    sized = λ s v e. signed_long w below above s v (signed_is w below above s v e);
    once = λ s t v e f. signed_once s t v (signed_is w below above s v e) (signed_is w below above t v f);
  }
