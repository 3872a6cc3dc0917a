-- Steps over records that are known to be sound.
use Rattle.std.proofs.Common.{◌≡◌, ℕ, ◌+◌, ◌≤◌, List, [], ◌∷◌, length, drop, Some, None, Option, IfSome, sym, refl, ap, ◌∙◌, subst, arith, drop-drop}
use Rattle.std.specs.Iterator.{Yields, SkipsThenYields}
use Rattle.refusal.specs.declared.fault.Fault.{Fault}
use Rattle.model.specs.Records.{Record, written}
use Rattle.walk.specs.declared.header.Header.{Header}
use Rattle.walk.specs.Heads.{Headed, Headless}
use Rattle.area.specs.declared.records.Spot.{Spot}
use Rattle.area.specs.declared.records.Records.{Records}
use Rattle.area.specs.Finding.{Sound, Found, Located}
use Rattle.area.specs.Going.{Ahead, Steps, Goes}
use Rattle.area.proofs.Located.{stop_none, found, next_record}

pub ahead_all : (l : List Record) (s : Records) → (s.number ≡ 0) × (s.place ≡ 0) × (s.rest.now ≡ written l) → Ahead l s
ahead_all l s e = record { few = rw e.0 (omega arith); place_is = rw (e.0, e.1) refl; rest_is = rw e.1 e.2 }

module _ (s t : Records) where
  pub goes_none : {f : Fault} → Headless s.place s.rest.now f → Goes s None t
  goes_none {f} x l so a = stop_none (written l) l s.number s.place so refl a.place_is s.number (omega arith) (subst (λ b. Headless s.place b f) a.rest_is x)

  pub goes_some : (h : Header) (few : s.place + (11 + length h.data.now) ≤ 99996) → Headed s.rest.now h → t.number ≡ s.number + 1 → t.place ≡ s.place + (11 + length h.data.now) → t.rest.now ≡ drop (11 + length h.data.now) s.rest.now → t.place + length t.rest.now ≡ s.place + length s.rest.now → Steps s (record { number = s.number; place = s.place; head = h; few = few }) t
  goes_some h few x n p r e = record {
    number_is = refl;
    place_is = refl;
    one = n;
    size = p;
    same_end = e;
    told = λ l so a.
        let x' = subst (λ b. Headed b h) a.rest_is x in
        let f = found (written l) l s.number s.place so refl a.place_is h x' in
        let m = next_record (written l) l s.number s.place so refl a.place_is h x' in (
          f,
          record {
            few = rw n m.0;
            place_is = rw n (p ∙ m.1);
            rest_is = r ∙ ap (drop (11 + length h.data.now)) a.rest_is ∙ drop-drop (11 + length h.data.now) s.place (written l) ∙ ap (λ i. drop i (written l)) (sym p);
          },
        );
  }

-- steps over some records
pub same_end : (s t : Records) (xs : List Spot) → Yields Goes s xs t → t.place + length t.rest.now ≡ s.place + length s.rest.now
same_end s t [] e = ap (λ i. i.place + length i.rest.now) (sym e)
same_end s t (x ∷ xs) y = same_end y.0 t xs y.2 ∙ y.1.same_end

pub counted : (s t : Records) (xs : List Spot) → Yields Goes s xs t → t.number ≡ s.number + length xs
counted s t [] e = ap (λ i. i.number) (sym e) ∙ (let z : s.number ≡ s.number + 0 = omega arith in z)
counted s t (x ∷ xs) y = let a = counted y.0 t xs y.2 in let b = y.1.one in omega arith

pub still_ahead : (l : List Record) → Sound l → (s t : Records) (xs : List Spot) → Ahead l s → Yields Goes s xs t → Ahead l t
still_ahead l so s t [] a e = subst (Ahead l) e a
still_ahead l so s t (x ∷ xs) a y = still_ahead l so y.0 t xs (y.1.told l so a).1 y.2

-- the record after n others
pub nth_within : (s u : Records) (n : ℕ) (r : Option Spot) → SkipsThenYields Goes s n r u → IfSome r (λ x. x.place + (11 + length x.head.data.now) ≤ s.place + length s.rest.now)
nth_within s u n None y = tt
nth_within s u n (Some x) y =
    let a = same_end s y.1.0 y.0 y.1.1 in
    let g = y.1.2 in
    let b = g.same_end in
    let d = g.size in
    let e = g.place_is in
    omega arith

pub nth_found : (l : List Record) → Sound l → (s u : Records) (n : ℕ) (r : Option Spot) → s.number ≡ 0 → Ahead l s → SkipsThenYields Goes s n r u → Found l n r
nth_found l so s u n None z a y =
    let c = counted s y.1.0 y.0 y.1.1 in
    let g = y.1.2 l so (still_ahead l so s y.1.0 y.0 a y.1.1) in
    let m = y.2 in
    omega arith
nth_found l so s u n (Some x) z a y =
    let c = counted s y.1.0 y.0 y.1.1 in
    let g = y.1.2 in
    let m = y.2 in
    let i = g.number_is in
    let e : x.number ≡ n = omega arith in
    subst (λ k. Located l k x.place x.head) e (g.told l so (still_ahead l so s y.1.0 y.0 a y.1.1)).0
