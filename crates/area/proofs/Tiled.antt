-- Entries that lie one behind another.
use Rattle.std.proofs.Common.{◌≡◌, ℕ, ◌+◌, ◌-◌, ◌<◌, ◌≤◌, List, [], ◌∷◌, ◌++◌, length, get_or, drop, inl, inr, sym, refl, subst, arith, length-append, ◌==◌}
use Rattle.std.proofs.lemmas.Bool.{cases_eq, eq-eqb, ne_eqb}
use Rattle.std.proofs.lemmas.List.{drop_more, drop_all}
use Rattle.walk.specs.Heads.{Tells}
use Rattle.model.specs.Records.{joined}
use Rattle.model.proofs.Lists.{never}
use Rattle.area.specs.declared.answer.Entry.{Entry}
use Rattle.area.specs.Listing.{entries_of, Tiling}
use Rattle.area.proofs.Enlisting.{nowhere}

-- what the rest does from here, the whole does from the start
pub record Going (es : List Entry) (start end i at : ℕ) : Type 0 where
  pub low : start ≤ at
  pub high : at ≤ end
  pub so : Tiling (drop i es) at end → Tiling es start end
  pub back : Tiling es start end → Tiling (drop i es) at end

pub tiling_low : (es : List Entry) (start end : ℕ) → Tiling es start end → start ≤ end
tiling_low [] start end t = omega arith
tiling_low (e ∷ es) start end t = let h = tiling_low es (start + e.width) end t.1 in omega arith

module _ {es : List Entry} {start end i at : ℕ} (g : Going es start end i at) where
  pub going_more : i < length es → (get_or es i nowhere).place ≡ at → (get_or es i nowhere).width ≤ end - at → Going es start end (i + 1) (at + (get_or es i nowhere).width)
  going_more h p w =
      let lo = g.low in
      let hi = g.high in
      record {
        low = omega arith;
        high = omega arith;
        so = λ t. g.so (rw (drop_more es i nowhere h) (p, t));
        back = λ t. let x = rw (drop_more es i nowhere h) at (g.back t) in x.1;
      }

  pub going_place : i < length es → ((get_or es i nowhere).place ≡ at → ⊥) → Tiling es start end → ⊥
  going_place h n t = let x = rw (drop_more es i nowhere h) at (g.back t) in n x.0

  pub going_width : i < length es → end - at < (get_or es i nowhere).width → Tiling es start end → ⊥
  going_width h w t =
      let x = rw (drop_more es i nowhere h) at (g.back t) in
      let y = tiling_low (drop (i + 1) es) (at + (get_or es i nowhere).width) end x.1 in
      let hi = g.high in
      omega arith

  pub going_all : length es ≤ i → (at ≡ end → Tiling es start end) × (Tiling es start end → at ≡ end)
  going_all h = let n = drop_all i es h in (λ e. g.so (rw n e), λ t. rw n at (g.back t))

-- a test for equality that decides P
pub tells_equal : {a b : ℕ} {P : Type 0} → (a ≡ b → P) × (P → a ≡ b) → Tells (a == b) P
tells_equal {a} {b} {P} f =
    elim (cases_eq a b) [
      | inl e ↦ subst (λ t. Tells t P) (sym (eq-eqb a b e)) (f.0 e)
      | inr n ↦ subst (λ t. Tells t P) (sym (ne_eqb a b n)) (λ t. n (f.1 t))
    ]

-- the entries of a record tile its data
pub entries_tile : (n k at : ℕ) (ns : List ℕ) (ss : List (List ℕ)) → length ns ≡ length ss → Tiling (entries_of n k at ns ss) at (at + length (joined ss))
entries_tile n k at [] [] e = omega arith
entries_tile n k at [] (s ∷ ss) e = let bad : ⊥ = omega arith in never bad
entries_tile n k at (x ∷ ns) [] e = let bad : ⊥ = omega arith in never bad
entries_tile n k at (x ∷ ns) (s ∷ ss) e =
    let t = entries_tile n (k + 1) (at + length s) ns ss (omega arith) in
    let l = length-append s (joined ss) in
    let z : at + length s + length (joined ss) ≡ at + length (s ++ joined ss) = omega arith in
    (refl, subst (Tiling (entries_of n (k + 1) (at + length s) ns ss) (at + length s)) z t)
