-- Values made where a test of their parts holds, and readings of just the parts that a test keeps.
use Rattle.std.specs.Prelude.{◌≡◌, ℕ, ◌+◌, ◌≤◌, Bool, true, false, ◌&&◌, List, take, drop, Some, None, Option, nat_le, refl}
use Rattle.std.proofs.Common.{sym, ◌∙◌, ap, leb-true, le-leb, arith}
use Rattle.std.proofs.lemmas.Bool.{and_from}
use Rattle.std.proofs.Math.Bool.{Bool-set}
use Rattle.kind.specs.Compounds.{Composed}
use Rattle.kind.specs.Kinds.{Laws}
use Rattle.kind.specs.Naming.{built, Builds}
use Rattle.kind.specs.Options.{never, some_is}
use Rattle.kinds.specs.declared.layers.Both.{Both}
use Rattle.kinds.specs.Bytes.{and_parts, gate}
use Rattle.kinds.specs.Layers.{seq, both_is}
use Rattle.kinds.specs.Numbers.{number, number_is, number_from, number_laws}

-- the value made of the fact that a test holds, where it does
abbrev pub given : {V : Type 0} (b : Bool) → (b ≡ true → V) → Option V
given true make = Some (make refl)
given false make = None

pub given_made : {V : Type 0} (b : Bool) (make : b ≡ true → V) (e : b ≡ true) → given b make ≡ Some (make e)
given_made true make e = ap (λ h. Some (make h)) (Bool-set _ _ refl e)
given_made false make e = cc

pub given_is : {V : Type 0} (b : Bool) (make : b ≡ true → V) (v : V) → given b make ≡ Some v → (e : b ≡ true) × (make e ≡ v)
given_is true make v h = (refl, some_is h)
given_is false make v h = never h

-- A tighter reading: of just what reads and passes the test.
pub record Kept {P : Type 0} (test : P → Bool) (loose tight : List ℕ → Option P) : Type 0 where
  pub from : (s : List ℕ) (p : P) → tight s ≡ Some p → (loose s ≡ Some p) × (test p ≡ true)
  pub to : (s : List ℕ) (p : P) → loose s ≡ Some p → test p ≡ true → tight s ≡ Some p

pub all_kept : {P : Type 0} (f : List ℕ → Option P) → Kept (λ p. true) f f
all_kept f = record { from = λ s p e. (e, refl); to = λ s p e t. e }

pub number_kept : (w a b low high : ℕ) → a ≤ low → high ≤ b → Kept (λ v. nat_le low v && nat_le v high) (number w a b) (number w low high)
number_kept w a b low high under over = record {
  from = λ s v e.
      let n = number_is w low high s v e in
      (number_from w a b s v (record { long = n.long; plain = n.plain; least = omega arith; most = omega arith; says = n.says }), and_from _ _ (le-leb low v n.least) (le-leb v high n.most));
  to = λ s v e t.
      let n = number_is w a b s v e in
      let x = and_parts (nat_le low v) (nat_le v high) t in
      number_from w low high s v (record { long = n.long; plain = n.plain; least = leb-true low v x.0; most = leb-true v high x.1; says = n.says });
}

-- an hour, and a minute or a second, of any two digits
pub hour_kept : Kept (λ v. nat_le 0 v && nat_le v 23) (number 2 0 99) (number 2 0 23)
hour_kept = number_kept 2 0 99 0 23 (omega arith) (omega arith)

pub sixty_kept : Kept (λ v. nat_le 0 v && nat_le v 59) (number 2 0 99) (number 2 0 59)
sixty_kept = number_kept 2 0 99 0 59 (omega arith) (omega arith)

pub hour_laws : Laws 2 (number 2 0 23)
hour_laws = number_laws 2 0 23 (omega arith) (omega arith)

pub sixty_laws : Laws 2 (number 2 0 59)
sixty_laws = number_laws 2 0 59 (omega arith) (omega arith)

-- the same test in other words
pub kept_by : {P : Type 0} {t u : P → Bool} {f g : List ℕ → Option P} → ((p : P) → u p ≡ t p) → Kept t f g → Kept u f g
kept_by same k = record {
  from = λ s p e. let x = k.from s p e in (x.0, same p ∙ x.1);
  to = λ s p e h. k.to s p e (sym (same p) ∙ h);
}

module _ {V W : Type 0} {t : V → Bool} {u : W → Bool} {f f' : List ℕ → Option V} {g g' : List ℕ → Option W} (k : Kept t f f') (l : Kept u g g') (w v : ℕ) where
  kept_from : (s : List ℕ) (p : Both V W) → seq w v f' g' s ≡ Some p → (seq w v f g s ≡ Some p) × ((t p.front && u p.back) ≡ true)
  kept_from s p e =
      let q = gate (nat_le (w + v) 999) e in
      let r = both_is (f' (take w s)) (g' (drop w s)) p q.1 in
      let x = k.from (take w s) p.front r.0 in
      let y = l.from (drop w s) p.back r.1 in
      (rw (q.0, x.0, y.0) refl, and_from _ _ x.1 y.1)

  kept_to : (s : List ℕ) (p : Both V W) → seq w v f g s ≡ Some p → (t p.front && u p.back) ≡ true → seq w v f' g' s ≡ Some p
  kept_to s p e h =
      let q = gate (nat_le (w + v) 999) e in
      let r = both_is (f (take w s)) (g (drop w s)) p q.1 in
      let a = and_parts (t p.front) (u p.back) h in
      rw (q.0, k.to (take w s) p.front r.0 a.0, l.to (drop w s) p.back r.1 a.1) refl

  pub seq_kept : Kept (λ (p : Both V W). t p.front && u p.back) (seq w v f g) (seq w v f' g')
  seq_kept = record { from = kept_from; to = kept_to }

-- the value of parts that pass the test
abbrev pub maybe : {P V : Type 0} (test : P → Bool) → ((p : P) → test p ≡ true → V) → P → Option V
maybe test make p = given (test p) (make p)

module _ {P V : Type 0} (test : P → Bool) (make : (p : P) → test p ≡ true → V) where
  -- nothing is made of parts that are not kept
  unkept : {loose tight : List ℕ → Option P} → Kept test loose tight → (s : List ℕ) (p : P) → loose s ≡ Some p → tight s ≡ None → (x : Option V) → maybe test make p ≡ x → x ≡ None
  unkept k s p a b None e = refl
  unkept k s p a b (Some v) e = never (sym b ∙ k.to s p a (given_is (test p) (make p) v e).0)

  kept_built : {loose tight : List ℕ → Option P} → Kept test loose tight → (s : List ℕ) (x y : Option P) → loose s ≡ x → tight s ≡ y → built (maybe test make) x ≡ built (maybe test make) y
  kept_built k s None None a b = refl
  kept_built k s (Some p) None a b = unkept k s p a b (maybe test make p) refl
  kept_built k s x (Some p) a b = ap (built (maybe test make)) (sym a ∙ (k.from s p b).0)

  -- each value is made of its own parts, which pass the test
  pub given_builds : {parts : V → P} → ((p : P) (e : test p ≡ true) → parts (make p e) ≡ p) → (ok : (v : V) → test (parts v) ≡ true) → ((v : V) → make (parts v) (ok v) ≡ v) → (below : List ℕ → Option P) → Builds (maybe test make) parts below (λ s. built (maybe test make) (below s))
  given_builds {parts = parts} there ok back below = record {
    same = λ s. refl;
    of = λ p v e. let x = given_is (test p) (make p) v e in sym (there p x.0) ∙ ap parts x.1;
    back = λ v. given_made (test (parts v)) (make (parts v)) (ok v) ∙ ap Some (back v);
  }

  -- the same values are made of the parts that are kept, and of all of these
  pub kept_composed : {w : ℕ} {parts : V → P} {loose tight : List ℕ → Option P} {reads : List ℕ → Option V} → Builds (maybe test make) parts loose reads → Kept test loose tight → Laws w tight → Composed w (maybe test make) parts tight reads
  kept_composed {loose = loose} {tight = tight} b k l = record {
    laws = l;
    builds = record {
      same = λ s. b.same s ∙ kept_built k s (loose s) (tight s) refl refl;
      of = b.of;
      back = b.back;
    };
    whole = λ s p e. let x = (k.from s p e).1 in (make p x, given_made (test p) (make p) x);
  }
