-- The layers over kinds, and that they are kinds again.
use Rattle.std.specs.Prelude.{◌≡◌, ℕ, ◌+◌, ◌-◌, min, Bool, true, false, cond, ◌&&◌, List, ◌++◌, length, take, drop, Some, None, Option, ◌==◌, nat_le, refl}
use Rattle.std.proofs.Common.{sym, ◌∙◌, ap, ap₂, arith, take-append-drop, length-take, length-drop, eqb-true, leb-true}
use Rattle.kind.specs.Kinds.{Laws}
use Rattle.kinds.specs.declared.layers.Both.{Both}
use Rattle.kinds.specs.declared.layers.Either.{Either}
use Rattle.kinds.specs.declared.layers.Either.TheVariants.{First, Second}
use Rattle.kind.specs.Options.{never}
use Rattle.kinds.specs.Bytes.{spaces, gate, and_parts, spaces_same}

-- Blank: all spaces are absent, and anything else is what the kind below says.
abbrev pub present : {V : Type 0} → Option V → Option (Option V)
present None = None
present (Some v) = Some (Some v)

abbrev pub blank : {V : Type 0} → ℕ → (List ℕ → Option V) → List ℕ → Option (Option V)
blank w f s = cond (length s == w && spaces s) (Some None) (present (f s))

-- what an optional value stands for
abbrev pub seen_some : {A V : Type 0} → (A → V) → Option A → Option V
seen_some view None = None
seen_some view (Some v) = Some (view v)

pub present_is : {V : Type 0} (x : Option V) (v : Option V) → present x ≡ Some v → (a : V) × (x ≡ Some a) × (v ≡ Some a)
present_is None v e = never e
present_is (Some a) v e = (a, refl, cc)

pub blank_absent : {V : Type 0} (b : Bool) (x : Option V) → cond b (Some None) (present x) ≡ Some None → b ≡ true
blank_absent true x e = refl
blank_absent false x e = let p = present_is x None e in never p.2

pub blank_given : {V : Type 0} (b : Bool) (x : Option V) (v : V) → cond b (Some None) (present x) ≡ Some (Some v) → (b ≡ false) × (x ≡ Some v)
blank_given true x v e = let z : ◌≡◌ {A = ℕ} 0 1 = cc in let bad : ⊥ = omega arith in elim bad [ ]
blank_given false x v e = let p = present_is x (Some v) e in (refl, cc)

module _ {V : Type 0} {w : ℕ} {f : List ℕ → Option V} (k : Laws w f) where
  blank_sized : (s : List ℕ) (v : Option V) → blank w f s ≡ Some v → length s ≡ w
  blank_sized s None e = eqb-true (length s) w (and_parts (length s == w) (spaces s) (blank_absent (length s == w && spaces s) (f s) e)).0
  blank_sized s (Some v) e = k.sized s v (blank_given (length s == w && spaces s) (f s) v e).1

  blank_once : (s t : List ℕ) (v : Option V) → blank w f s ≡ Some v → blank w f t ≡ Some v → s ≡ t
  blank_once s t None a b =
      let p = and_parts (length s == w) (spaces s) (blank_absent (length s == w && spaces s) (f s) a) in
      let q = and_parts (length t == w) (spaces t) (blank_absent (length t == w && spaces t) (f t) b) in
      spaces_same s t p.1 q.1 (eqb-true (length s) w p.0 ∙ sym (eqb-true (length t) w q.0))
  blank_once s t (Some v) a b = k.once s t v (blank_given (length s == w && spaces s) (f s) v a).1 (blank_given (length t == w && spaces t) (f t) v b).1

  pub blank_laws : Laws w (blank w f)
  blank_laws = record { low = k.low; high = k.high; sized = blank_sized; once = blank_once }

-- Or-else: of the first's width, and the first that reads answers.
abbrev pub pick : {V W : Type 0} → Option V → Option W → Option (Either V W)
pick (Some v) y = Some (First v)
pick None (Some w) = Some (Second w)
pick None None = None

abbrev pub either : {V W : Type 0} → ℕ → (List ℕ → Option V) → (List ℕ → Option W) → List ℕ → Option (Either V W)
either w f g s = cond (length s == w) (pick (f s) (g s)) None

-- what a value of one of two kinds stands for
abbrev pub seen_either : {A B V W : Type 0} → (A → V) → (B → W) → Either A B → Either V W
seen_either f g (First v) = First (f v)
seen_either f g (Second v) = Second (g v)

pub pick_first : {V W : Type 0} (x : Option V) (y : Option W) (v : V) → pick x y ≡ Some (First v) → x ≡ Some v
pick_first (Some a) y v e = cc
pick_first None (Some b) v e = let z : ◌≡◌ {A = ℕ} 0 1 = cc in let bad : ⊥ = omega arith in elim bad [ ]
pick_first None None v e = never e

pub pick_second : {V W : Type 0} (x : Option V) (y : Option W) (v : W) → pick x y ≡ Some (Second v) → (x ≡ None) × (y ≡ Some v)
pick_second (Some a) y v e = let z : ◌≡◌ {A = ℕ} 0 1 = cc in let bad : ⊥ = omega arith in elim bad [ ]
pick_second None (Some b) v e = (refl, cc)
pick_second None None v e = never e

module _ {V W : Type 0} {w u : ℕ} {f : List ℕ → Option V} {g : List ℕ → Option W} (k : Laws w f) (l : Laws u g) where
  either_once : (s t : List ℕ) (v : Either V W) → either w f g s ≡ Some v → either w f g t ≡ Some v → s ≡ t
  either_once s t (First v) a b = k.once s t v (pick_first (f s) (g s) v (gate (length s == w) a).1) (pick_first (f t) (g t) v (gate (length t == w) b).1)
  either_once s t (Second v) a b = l.once s t v (pick_second (f s) (g s) v (gate (length s == w) a).1).1 (pick_second (f t) (g t) v (gate (length t == w) b).1).1

  pub either_laws : Laws w (either w f g)
  either_laws = record {
    low = k.low;
    high = k.high;
    sized = λ s v e. eqb-true (length s) w (gate (length s == w) e).0;
    once = either_once;
  }

-- Then: one kind behind another, together at most 999 wide.
abbrev pub both : {V W : Type 0} → Option V → Option W → Option (Both V W)
both (Some v) (Some w) = Some (record { front = v; back = w })
both (Some v) None = None
both None y = None

abbrev pub seq : {V W : Type 0} → ℕ → ℕ → (List ℕ → Option V) → (List ℕ → Option W) → List ℕ → Option (Both V W)
seq w u f g s = cond (nat_le (w + u) 999) (both (f (take w s)) (g (drop w s))) None

abbrev pub seq_wide : ℕ → ℕ → ℕ
seq_wide w u = min (w + u) 999

-- what two values stand for
abbrev pub seen_both : {A B V W : Type 0} → (A → V) → (B → W) → Both A B → Both V W
seen_both f g p = record { front = f p.front; back = g p.back }

pub both_is : {V W : Type 0} (x : Option V) (y : Option W) (p : Both V W) → both x y ≡ Some p → (x ≡ Some p.front) × (y ≡ Some p.back)
both_is (Some v) (Some w) p e = let h : record { front = v; back = w } ≡ p = cc in (ap (λ q. Some q.front) h, ap (λ q. Some q.back) h)
both_is (Some v) None p e = never e
both_is None y p e = never e

module _ {V W : Type 0} {w u : ℕ} {f : List ℕ → Option V} {g : List ℕ → Option W} (k : Laws w f) (l : Laws u g) where
  seq_sized : (s : List ℕ) (p : Both V W) → seq w u f g s ≡ Some p → length s ≡ seq_wide w u
  seq_sized s p e =
      let q = gate (nat_le (w + u) 999) e in
      let r = both_is (f (take w s)) (g (drop w s)) p q.1 in
      let a = k.sized (take w s) _ r.0 in
      let b = l.sized (drop w s) _ r.1 in
      let c : length s - w ≡ u = sym (length-drop w s) ∙ b in
      let d : min w (length s) ≡ w = sym (length-take w s) ∙ a in
      omega (arith, leb-true (w + u) 999 q.0, l.low)

  seq_once : (s t : List ℕ) (p : Both V W) → seq w u f g s ≡ Some p → seq w u f g t ≡ Some p → s ≡ t
  seq_once s t p a b =
      let x = both_is (f (take w s)) (g (drop w s)) p (gate (nat_le (w + u) 999) a).1 in
      let y = both_is (f (take w t)) (g (drop w t)) p (gate (nat_le (w + u) 999) b).1 in
      sym (take-append-drop w s) ∙ ap₂ ◌++◌ (k.once _ _ _ x.0 y.0) (l.once _ _ _ x.1 y.1) ∙ take-append-drop w t

  pub seq_laws : Laws (seq_wide w u) (seq w u f g)
  seq_laws = record { low = omega (arith, k.low, l.low); high = omega arith; sized = seq_sized; once = seq_once }
