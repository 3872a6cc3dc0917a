-- Data is refused in one way, and so are bytes.
use Rattle.std.proofs.Common.{◌≡◌, ℕ, ◌+◌, ◌<◌, ◌≤◌, Bool, true, false, ◌⊎◌, List, [], ◌++◌, length, take, drop, None, sym, refl, ap, ◌∙◌, subst, inl, inr, append_assoc, arith, length-append, take-append-drop, length-take-le}
use Rattle.book.specs.Meaning.{Meaning, Laws}
use Rattle.refusal.specs.declared.fault.Fault.{Fault}
use Rattle.model.specs.Records.{Record, TableRow, GoodTag, Whole, AllWhole, joined, digits5, record_of, written}
use Rattle.model.specs.Walks.{Fails, Refuses, Says}
use Rattle.model.specs.Walks.Fails.{ends, unread, past, later}
use Rattle.model.specs.Walks.Refuses.{short, badtag, badlength, cutoff, inside, later as after}
use Rattle.model.specs.Ledgers.LookRefuses.{long, walk, badtag as badbegun, draft}
use Rattle.model.specs.Laws.{OneFault}
use Rattle.model.proofs.Lists.{split_same, clash, same_width, never, same_number}
use Rattle.model.proofs.Unique.{one_list}
use Rattle.refusal.specs.declared.fault.Cause.TheVariants.{CutOff, BadTag, BadLength}
use Rattle.refusal.specs.Faults.{fault}
use Rattle.model.proofs.Apart.{refuses_apart, some_data, record_inside}

too_short : (d s x : List ℕ) → length d < length s → d ≡ s ++ x → ⊥
too_short d s x h e = let l = ap length e ∙ length-append s x in omega arith

module _ {V : Type 0} {m : Meaning V} where
  pub one_fail : {dr : Bool} {n base : ℕ} {tag p d : List ℕ} {k : ℕ} {f g : Fault} → Fails m dr n tag base p d k f → Fails m dr n tag base p d k g → f ≡ g
  one_fail (ends a l h) (ends b i j) = refl
  one_fail {d = d} (ends a l h) (unread s x b q u) = let w = same_width a b in never (too_short d s x (omega arith) q)
  one_fail (ends a l h) (past b i) = never (clash a b)
  one_fail {d = d} (ends a l h) (later s x b q u f) = let w = same_width a b in never (too_short d s x (omega arith) q)
  one_fail {d = d} (unread s x b q u) (ends a l h) = let w = same_width a b in never (too_short d s x (omega arith) q)
  one_fail (unread s x b q u) (unread s' x' b' q' u') = refl
  one_fail (unread s x b q u) (past a h) = never (clash b a)
  one_fail {tag = tag} {p = p} (unread s x b q u) (later s' x' b' q' u' f) =
      let z = split_same s s' x x' (same_width b b') (sym q ∙ q') in never (clash u' (subst (λ i. m.reads tag p i ≡ None) z.0 u))
  one_fail (past a h) (ends b i j) = never (clash b a)
  one_fail (past a h) (unread s x b q u) = never (clash b a)
  one_fail (past a h) (past b i) = refl
  one_fail (past a h) (later s x b q u f) = never (clash b a)
  one_fail {d = d} (later s x b q u f) (ends a l h) = let w = same_width a b in never (too_short d s x (omega arith) q)
  one_fail {tag = tag} {p = p} (later s' x' b' q' u' f) (unread s x b q u) =
      let z = split_same s s' x x' (same_width b b') (sym q ∙ q') in never (clash u' (subst (λ i. m.reads tag p i ≡ None) z.0 u))
  one_fail (later s x b q u f) (past a h) = never (clash b a)
  one_fail {dr} {n = n} {base = base} {tag = tag} {p = p} {g = fault} (later {k = k} s x b q u f) (later s' x' b' q' u' f') =
      let z = split_same s s' x x' (same_width b b') (sym q ∙ q') in
      let g1 : Fails m dr n tag base (p ++ s) x' (k + 1) fault = subst (λ i. Fails m dr n tag base (p ++ i) x' (k + 1) fault) (sym z.0) f' in
      let g2 : Fails m dr n tag base (p ++ s) x (k + 1) fault = subst (λ i. Fails m dr n tag base (p ++ s) i (k + 1) fault) (sym z.1) g1 in
      one_fail f g2

-- the header as the bytes have it: the tag, five bytes and the rest
record Head (a tag five rest : List ℕ) : Type 0 where
  pub is : a ≡ tag ++ (five ++ rest)
  pub six : length tag ≡ 6
  pub fives : length five ≡ 5

module _ {a tag five rest tag' five' rest' : List ℕ} (h : Head a tag five rest) (k : Head a tag' five' rest') where
  one_tag : tag ≡ tag'
  one_tag = (split_same tag tag' (five ++ rest) (five' ++ rest') (h.six ∙ sym k.six) (sym h.is ∙ k.is)).0

  one_tail : (five ≡ five') × (rest ≡ rest')
  one_tail = split_same five five' rest rest' (h.fives ∙ sym k.fives) (split_same tag tag' (five ++ rest) (five' ++ rest') (h.six ∙ sym k.six) (sym h.is ∙ k.is)).1

flat_head : (a tag d x : List ℕ) → length tag ≡ 6 → a ≡ record_of tag d ++ x → Head a tag (digits5 (length d)) (d ++ x)
unfolding record_of
flat_head a tag d x s e = record { is = e ∙ append_assoc (tag ++ digits5 (length d)) d x ∙ append_assoc tag (digits5 (length d)) (d ++ x); six = s; fives = refl }

-- what a walk finds behind a header's first bytes
data Inner {V : Type 0} (m : Meaning V) (at n : ℕ) (tag five rest : List ℕ) : Fault → Type 0 where
  i_tag : (GoodTag tag → ⊥) → Inner m at n tag five rest (fault BadTag at n 0)
  i_length : GoodTag tag → ((k : ℕ) → Says five k → ⊥) → Inner m at n tag five rest (fault BadLength (at + 6) n 0)
  i_cut : GoodTag tag → (k : ℕ) → Says five k → length rest < k → Inner m at n tag five rest (fault CutOff at n 0)
  i_data : {f : Fault} → GoodTag tag → (d x : List ℕ) → rest ≡ d ++ x → Says five (length d) → m.knows tag ≡ true → Fails m false n tag (at + 11) [] d 0 f → Inner m at n tag five rest f
  i_after : {f : Fault} → GoodTag tag → (ss : List (List ℕ)) (r : TableRow V) (x : List ℕ) → Whole m (record { tag = tag; spellings = ss }) r → rest ≡ joined ss ++ x → five ≡ digits5 (length (joined ss)) → Refuses m (at + (11 + length (joined ss))) (n + 1) x f → Inner m at n tag five rest f

record Viewed {V : Type 0} (m : Meaning V) (at n : ℕ) (a : List ℕ) (f : Fault) : Type 0 where
  pub tag : List ℕ
  pub five : List ℕ
  pub rest : List ℕ
  pub head : Head a tag five rest
  pub inner : Inner m at n tag five rest f

module _ {V : Type 0} {m : Meaning V} (laws : Laws m) where
  view : {at n : ℕ} {a : List ℕ} {f : Fault} → Refuses m at n a f → ((length a < 11) × (f ≡ fault CutOff at n 0)) ⊎ Viewed m at n a f
  view (short h l) = inl (l, refl)
  view (badtag tag x e s l b) = inr (record { tag = tag; five = take 5 x; rest = drop 5 x; head = record { is = e ∙ ap (λ i. tag ++ i) (sym (take-append-drop 5 x)); six = s; fives = length-take-le 5 x l }; inner = i_tag b })
  view (badlength tag five x e g l h) = inr (record { tag = tag; five = five; rest = x; head = record { is = e; six = g.six; fives = l }; inner = i_length g h })
  view (cutoff tag five x k e g s l) = inr (record { tag = tag; five = five; rest = x; head = record { is = e; six = g.six; fives = ap length s.0 }; inner = i_cut g k s l })
  view {a = a} (inside tag d x e g h l k f) = inr (record { tag = tag; five = digits5 (length d); rest = d ++ x; head = flat_head a tag d x g.six e; inner = i_data g d x refl (refl, h, l) k f })
  view {a = a} (after y r x e w f) = inr (record { tag = y.tag; five = digits5 (length (joined y.spellings)); rest = joined y.spellings ++ x; head = flat_head a y.tag (joined y.spellings) x w.good.six e; inner = i_after w.good y.spellings r x w refl refl f })

  long_head : {a tag five rest : List ℕ} → Head a tag five rest → 11 ≤ length a
  long_head {a} {tag} {five} {rest} h = let l = ap length h.is ∙ length-append tag (five ++ rest) in let k = length-append five rest in let p = h.six in let q = h.fives in omega arith

  said_by : {five : List ℕ} (k : ℕ) (ss : List (List ℕ)) → Says five k → five ≡ digits5 (length (joined ss)) → length (joined ss) ≤ 99985 → k ≡ length (joined ss)
  said_by k ss s e l = let q = s.2 in same_number k (length (joined ss)) (omega arith) (omega arith) (sym s.0 ∙ e)

  said_once : {five : List ℕ} (k j : ℕ) → Says five k → Says five j → k ≡ j
  said_once k j s t = let q = s.2 in let r = t.2 in same_number k j (omega arith) (omega arith) (sym s.0 ∙ t.0)

  data_not_whole : {n base : ℕ} {tag five rest : List ℕ} {f : Fault} (d x : List ℕ) (ss : List (List ℕ)) (r : TableRow V) (y : List ℕ) → rest ≡ d ++ x → Says five (length d) → m.knows tag ≡ true → Fails m false n tag base [] d 0 f → Whole m (record { tag = tag; spellings = ss }) r → rest ≡ joined ss ++ y → five ≡ digits5 (length (joined ss)) → ⊥
  data_not_whole {n} {base} {tag} {five} {rest} {f} d x ss r y e s kn fl w e' t =
      let q = said_by (length d) ss s t w.short in
      let z = split_same d (joined ss) x y q (sym e ∙ e') in
      record_inside laws kn (subst (λ i. Fails m false n tag base [] i 0 f) z.0 fl) w.begun w.full

  module _ {at n : ℕ} {tag five rest : List ℕ} where
    tag_vs : {g : Fault} → (GoodTag tag → ⊥) → Inner m at n tag five rest g → fault BadTag at n 0 ≡ g
    tag_vs b (i_tag c) = refl
    tag_vs b (i_length g h) = never (b g)
    tag_vs b (i_cut g k s l) = never (b g)
    tag_vs b (i_data g d x e s k f) = never (b g)
    tag_vs b (i_after g ss r x w e q f) = never (b g)

    length_vs : {g : Fault} → GoodTag tag → ((k : ℕ) → Says five k → ⊥) → Inner m at n tag five rest g → fault BadLength (at + 6) n 0 ≡ g
    length_vs g h (i_tag c) = never (c g)
    length_vs g h (i_length _ _) = refl
    length_vs g h (i_cut _ k s l) = never (h k s)
    length_vs g h (i_data _ d x e s k f) = never (h (length d) s)
    length_vs g h (i_after _ ss r x w e q f) = never (h (length (joined ss)) (q, some_data laws w.begun w.full, w.short))

    cut_vs : {g : Fault} → GoodTag tag → (k : ℕ) → Says five k → length rest < k → Inner m at n tag five rest g → fault CutOff at n 0 ≡ g
    cut_vs g k s l (i_tag c) = never (c g)
    cut_vs g k s l (i_length _ h) = never (h k s)
    cut_vs g k s l (i_cut _ _ _ _) = refl
    cut_vs g k s l (i_data _ d x e t kn f) = let q = said_once k (length d) s t in let z = ap length e ∙ length-append d x in let bad : ⊥ = omega arith in never bad
    cut_vs g k s l (i_after _ ss r x w e t f) = let q = said_by k ss s t w.short in let z = ap length e ∙ length-append (joined ss) x in let bad : ⊥ = omega arith in never bad

    data_vs : {f g : Fault} → GoodTag tag → (d x : List ℕ) → rest ≡ d ++ x → Says five (length d) → m.knows tag ≡ true → Fails m false n tag (at + 11) [] d 0 f → Inner m at n tag five rest g → f ≡ g
    data_vs g d x e s kn fl (i_tag c) = never (c g)
    data_vs g d x e s kn fl (i_length _ h) = never (h (length d) s)
    data_vs g d x e s kn fl (i_cut _ k t l) = let q = said_once k (length d) t s in let z = ap length e ∙ length-append d x in let bad : ⊥ = omega arith in never bad
    data_vs {g = gg} g d x e s kn fl (i_data _ d' x' e' s' kn' fl') =
        let z = split_same d d' x x' (said_once (length d) (length d') s s') (sym e ∙ e') in
        one_fail fl (subst (λ i. Fails m false n tag (at + 11) [] i 0 gg) (sym z.0) fl')
    data_vs g d x e s kn fl (i_after _ ss r y w e' t f) = never (data_not_whole d x ss r y e s kn fl w e' t)

    after_vs : {f g : Fault} → GoodTag tag → (ss : List (List ℕ)) (r : TableRow V) (x : List ℕ) → Whole m (record { tag = tag; spellings = ss }) r → rest ≡ joined ss ++ x → five ≡ digits5 (length (joined ss)) → ((h : Fault) → Refuses m (at + (11 + length (joined ss))) (n + 1) x h → f ≡ h) → Inner m at n tag five rest g → f ≡ g
    after_vs g ss r x w e t rec (i_tag c) = never (c g)
    after_vs g ss r x w e t rec (i_length _ h) = never (h (length (joined ss)) (t, some_data laws w.begun w.full, w.short))
    after_vs g ss r x w e t rec (i_cut _ k s l) = let q = said_by k ss s t w.short in let z = ap length e ∙ length-append (joined ss) x in let bad : ⊥ = omega arith in never bad
    after_vs g ss r x w e t rec (i_data _ d y e' s kn fl) = never (data_not_whole d y ss r x e' s kn fl w e t)
    after_vs {g = gg} g ss r x w e t rec (i_after _ ss' r' x' w' e' t' f) =
        let v = w.short in
        let v' = w'.short in
        let q : length (joined ss) ≡ length (joined ss') = same_number (length (joined ss)) (length (joined ss')) (omega arith) (omega arith) (sym t ∙ t') in
        let z = split_same (joined ss) (joined ss') x x' q (sym e ∙ e') in
        let f1 : Refuses m (at + (11 + length (joined ss))) (n + 1) x' gg = subst (λ i. Refuses m (at + (11 + i)) (n + 1) x' gg) (sym q) f in
        rec gg (subst (λ i. Refuses m (at + (11 + length (joined ss))) (n + 1) i gg) (sym z.1) f1)

  -- the inner view over the same header
  moved : {at n : ℕ} {a tag five rest : List ℕ} {g : Fault} → Head a tag five rest → (v : Viewed m at n a g) → Inner m at n tag five rest g
  moved {at} {n} {a} {tag} {five} {rest} {g} h v =
      let t = one_tag v.head h in
      let f = one_tail v.head h in
      let i1 : Inner m at n tag v.five v.rest g = subst (λ i. Inner m at n i v.five v.rest g) t v.inner in
      let i2 : Inner m at n tag five v.rest g = subst (λ i. Inner m at n tag i v.rest g) f.0 i1 in
      subst (λ i. Inner m at n tag five i g) f.1 i2

  pub one_refuse : {a : List ℕ} {at n : ℕ} {f g : Fault} → Refuses m at n a f → Refuses m at n a g → f ≡ g
  one_refuse (short h l) y = elim (view y) [ inl z ↦ sym z.1 | inr v ↦ let k = long_head v.head in let bad : ⊥ = omega arith in never bad ]
  one_refuse {a} (badtag tag x e s l b) y =
      let h : Head a tag (take 5 x) (drop 5 x) = record { is = e ∙ ap (λ i. tag ++ i) (sym (take-append-drop 5 x)); six = s; fives = length-take-le 5 x l } in
      elim (view y) [ inl z ↦ (let k = long_head h in let w = z.0 in let bad : ⊥ = omega arith in never bad) | inr v ↦ tag_vs b (moved h v) ]
  one_refuse {a} (badlength tag five x e g l b) y =
      let h : Head a tag five x = record { is = e; six = g.six; fives = l } in
      elim (view y) [ inl z ↦ (let k = long_head h in let w = z.0 in let bad : ⊥ = omega arith in never bad) | inr v ↦ length_vs g b (moved h v) ]
  one_refuse {a} (cutoff tag five x k e g s l) y =
      let h : Head a tag five x = record { is = e; six = g.six; fives = ap length s.0 } in
      elim (view y) [ inl z ↦ (let k = long_head h in let w = z.0 in let bad : ⊥ = omega arith in never bad) | inr v ↦ cut_vs g k s l (moved h v) ]
  one_refuse {a} (inside tag d x e g o l k f) y =
      let h = flat_head a tag d x g.six e in
      elim (view y) [ inl z ↦ (let k = long_head h in let w = z.0 in let bad : ⊥ = omega arith in never bad) | inr v ↦ data_vs g d x refl (refl, o, l) k f (moved h v) ]
  one_refuse {a} (after y r x e w f) u =
      let h = flat_head a y.tag (joined y.spellings) x w.good.six e in
      elim (view u) [ inl z ↦ (let k = long_head h in let w = z.0 in let bad : ⊥ = omega arith in never bad) | inr v ↦ after_vs w.good y.spellings r x w refl refl (λ i j. one_refuse f j) (moved h v) ]

  same_count : {l k : List Record} {t u : List (TableRow V)} (a : List ℕ) → AllWhole m l t → AllWhole m k u → a ≡ written l → a ≡ written k → length l ≡ length k
  same_count a w v e f = ap length (one_list laws w v (sym e ∙ f)).0

  pub one_fault : OneFault m
  one_fault buf a f g (long h) (long k) = refl
  one_fault buf a f g (long h) (walk k r) = let bad : ⊥ = omega arith in never bad
  one_fault buf a f g (long h) (badbegun k d b w t) = let bad : ⊥ = omega arith in never bad
  one_fault buf a f g (long h) (draft k d b w t kn r) = let bad : ⊥ = omega arith in never bad
  one_fault buf a f g (walk k r) (long h) = let bad : ⊥ = omega arith in never bad
  one_fault buf a f g (walk k r) (walk h q) = one_refuse r q
  one_fault buf a f g (walk k r) (badbegun h d b w t) = never (refuses_apart laws r w b)
  one_fault buf a f g (walk k r) (draft h d b w t kn q) = never (refuses_apart laws r w b)
  one_fault buf a f g (badbegun h d b w t) (long k) = let bad : ⊥ = omega arith in never bad
  one_fault buf a f g (badbegun h d b w t) (walk k r) = never (refuses_apart laws r w b)
  one_fault buf a f g (badbegun h d b w t) (badbegun h' d' b' w' t') = ap (λ i. fault BadTag a.end i 0) (same_count (take a.end buf) w w' b b')
  one_fault buf a f g (badbegun h d b w t) (draft h' d' b' w' t' kn q) = never (t t')
  one_fault buf a f g (draft h d b w t kn r) (long k) = let bad : ⊥ = omega arith in never bad
  one_fault buf a f g (draft h d b w t kn r) (walk k q) = never (refuses_apart laws q w b)
  one_fault buf a f g (draft h d b w t kn r) (badbegun h' d' b' w' t') = never (t' t)
  one_fault buf a f g (draft {k = k} h d b w t kn r) (draft {k = k'} {l = l'} h' d' b' w' t' kn' r') =
      let e : k' ≡ k = cc in
      let n = same_count (take a.end buf) w' w b' b in
      let tag = take 6 (drop a.end buf) in
      let q1 : Fails m true (length l') tag (a.end + 11) [] (take k (drop 11 (drop a.end buf))) 0 g = subst (λ i. Fails m true (length l') tag (a.end + 11) [] (take i (drop 11 (drop a.end buf))) 0 g) e r' in
      one_fail r (subst (λ i. Fails m true i tag (a.end + 11) [] (take k (drop 11 (drop a.end buf))) 0 g) n q1)
