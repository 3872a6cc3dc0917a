-- Checking, reading and spelling one kind behind another.
use Rattle.std.proofs.Common.{◌≡◌, ℕ, ◌+◌, ◌<◌, ◌≤◌, leb, ◌⊎◌, List, ◌++◌, length, take, drop, Some, None, Ok, Err, Option, Result, refl, ap, ◌∙◌, inl, inr, arith, le-leb, leb-true}
use Rattle.std.proofs.lemmas.List.{take_at, drop_at}
use Rattle.refusal.specs.declared.fault.Fault.{Fault}
use Rattle.kinds.specs.declared.layers.Both.{Both}
use Rattle.kind.specs.Kinds.{Laws, Checked}
use Rattle.kinds.specs.Bytes.{gate}
use Rattle.kinds.proofs.Fits.{none_from}
use Rattle.kinds.specs.Layers.{seq, both_is, seq_laws}

module _ {V W : Type 0} {w u : ℕ} {f : List ℕ → Option V} {g : List ℕ → Option W} (k : Laws w f) (l : Laws u g) where
  pub seq_misfit : (s : List ℕ) → ((length s ≡ w + u → ⊥) ⊎ ((length s ≡ w + u) × (999 < w + u))) → (p : Both V W) → seq w u f g s ≡ Some p → ⊥
  seq_misfit s (inl h) p e = let a = leb-true (w + u) 999 (gate (leb (w + u) 999) e).0 in let b = (seq_laws k l).sized s p e in h (omega (arith, a, b))
  seq_misfit s (inr h) p e = let a = leb-true (w + u) 999 (gate (leb (w + u) 999) e).0 in omega (arith, a, h.1)

  pub seq_some : (s : List ℕ) (v : V) (x : W) → w + u ≤ 999 → f (take w s) ≡ Some v → g (drop w s) ≡ Some x → seq w u f g s ≡ Some (record { front = v; back = x })
  seq_some s v x h a b = rw (le-leb (w + u) 999 h, a, b) refl

  pub seq_back : (s : List ℕ) → g (drop w s) ≡ None → (p : Both V W) → seq w u f g s ≡ Some p → ⊥
  seq_back s h p e = let q = both_is (f (take w s)) (g (drop w s)) p (gate (leb (w + u) 999) e).1 in let z : ◌≡◌ {A = ℕ} 0 1 = cc q.1 in omega arith

  pub seq_checked : (s : List ℕ) (v : V) (r : Result (Unit {0}) Fault) → w + u ≤ 999 → f (take w s) ≡ Some v → Checked g (drop w s) r → Checked (seq w u f g) s r
  seq_checked s v (Ok t) h a p = (record { front = v; back = p.0 }, seq_some s v p.0 h a p.1)
  seq_checked s v (Err e) h a p = (none_from _ (seq_back s p.0), p.1)

  pub seq_spelled : (a b : List ℕ) (p : Both V W) → w + u ≤ 999 → f a ≡ Some p.front → g b ≡ Some p.back → seq w u f g (a ++ b) ≡ Some p
  seq_spelled a b p h x y = let n = k.sized a _ x in seq_some (a ++ b) p.front p.back h (ap f (take_at a b w n) ∙ x) (ap g (drop_at a b w n) ∙ y)

  -- no spelling, since the second part has none
  pub seq_back_none : (s : List ℕ) (p : Both V W) → ((t : List ℕ) → length t ≡ u → g t ≡ Some p.back → ⊥) → seq w u f g s ≡ Some p → ⊥
  seq_back_none s p h e = let q = both_is (f (take w s)) (g (drop w s)) p (gate (leb (w + u) 999) e).1 in h (drop w s) (l.sized _ _ q.1) q.1
