-- Bytes are cut into records and fields in one way, and one table has one spelling.
use Rattle.std.proofs.Common.{◌≡◌, ℕ, ◌≤◌, List, [], ◌++◌, length, Some, sym, refl, ap, ◌∙◌, subst, ap₂, append_assoc, append-nil, arith, length-append}
use Rattle.book.specs.Meaning.{Meaning, Laws}
use Rattle.model.specs.Records.{Record, TableField, TableRow, Fields, Begun, AllWhole, ReadsAs, joined, digits5, header, record_of, written}
use Rattle.model.specs.Records.Fields.{none, next}
use Rattle.model.specs.Records.Begun.{known, bare, lump}
use Rattle.model.specs.Records.AllWhole.{none as no_rows, more}
use Rattle.model.proofs.Lists.{split_same, same_width, same_name, both, never, same_number}

abbrev entry : List ℕ → List (List ℕ) → Record
entry t ss = record { tag = t; spellings = ss }

abbrev row : {V : Type 0} → List ℕ → List (TableField V) → TableRow V
row t fs = record { tag = t; fields = fs }

longest : (s x : List ℕ) → 1 ≤ length s → [] ≡ s ++ x → ⊥
longest s x h e = let l = ap length e ∙ length-append s x in omega arith

module _ {V : Type 0} {m : Meaning V} (laws : Laws m) where
  pub Same : {A B : Type 0} → A → A → B → B → Type 0
  Same a b x y = (a ≡ b) × (x ≡ y)

  -- the passed bytes decide the widths
  pub one_cut : {tag p : List ℕ} {ss rr : List (List ℕ)} {fs gs : List (TableField V)} → Fields m tag p ss fs → Fields m tag p rr gs → joined ss ≡ joined rr → (ss ≡ rr) × (fs ≡ gs)
  one_cut none none e = (refl, refl)
  one_cut {tag} {p} none (next {s = s} {ss = rr} {n = n} a r f) e = never (longest s (joined rr) (laws.wide tag p n (length s) a).0 e)
  one_cut {tag} {p} (next {s = s} {ss = ss} {n = n} a r f) none e = never (longest s (joined ss) (laws.wide tag p n (length s) a).0 (sym e))
  one_cut {tag} {p} (next {s = s} {ss = ss} {n = n} {v = v} {fs = fs} a r f) (next {s = s'} {ss = ss'} {n = n'} {v = v'} {fs = gs} b q g) e =
      let z = split_same s s' (joined ss) (joined ss') (same_width a b) e in
      let g' : Fields m tag (p ++ s) ss' gs = subst (λ x. Fields m tag (p ++ x) ss' gs) (sym z.0) g in
      let q' : m.reads tag p s ≡ Some v' = subst (λ x. m.reads tag p x ≡ Some v') (sym z.0) q in
      let w = one_cut f g' z.1 in
      let names : n ≡ n' = same_name a b in
      let values : v ≡ v' = cc in
      let e0 = z.0 in
      let e1 = w.0 in
      let e2 = w.1 in
      (cc, cc)

  -- the values decide the spellings
  pub one_spelling : {tag p : List ℕ} {ss rr : List (List ℕ)} {fs : List (TableField V)} → Fields m tag p ss fs → Fields m tag p rr fs → ss ≡ rr
  one_spelling none none = refl
  one_spelling {tag} {p} (next {s = s} {ss = ss} {v = v} {fs = fs} a r f) (next {s = s'} {ss = ss'} b q g) =
      let e : s ≡ s' = laws.once tag p s s' v r q in
      let g' : Fields m tag (p ++ s) ss' fs = subst (λ x. Fields m tag (p ++ x) ss' fs) (sym e) g in
      let k = one_spelling f g' in
      cc

  pub begun_one : {tag : List ℕ} {ss rr : List (List ℕ)} {fs gs : List (TableField V)} → Begun m tag ss fs → Begun m tag rr gs → joined ss ≡ joined rr → (ss ≡ rr) × (fs ≡ gs)
  begun_one (known k f) (known i g) e = one_cut f g e
  begun_one (known k f) (bare i) e = never (both k i)
  begun_one (known k f) (lump i h) e = never (both k i)
  begun_one (bare k) (known i g) e = never (both i k)
  begun_one (bare k) (bare i) e = (refl, refl)
  begun_one (bare k) (lump {s = s} i h) e = never (longest s [] (omega arith) e)
  begun_one (lump k h) (known i g) e = never (both i k)
  begun_one (lump {s = s} k h) (bare i) e = never (longest s [] (omega arith) (sym e))
  begun_one (lump {s = s} k h) (lump {s = r} i j) e = let q : s ≡ r = sym (append-nil s) ∙ e ∙ append-nil r in (cc, cc)

  pub begun_spelling : {tag : List ℕ} {ss rr : List (List ℕ)} {fs : List (TableField V)} → Begun m tag ss fs → Begun m tag rr fs → ss ≡ rr
  begun_spelling (known k f) (known i g) = one_spelling f g
  begun_spelling (known k f) (bare i) = never (both k i)
  begun_spelling (known k f) (lump i h) = never (both k i)
  begun_spelling (bare k) (known i g) = never (both i k)
  begun_spelling (bare k) (bare i) = refl
  begun_spelling (lump k h) (known i g) = never (both i k)
  begun_spelling (lump k h) (lump i j) = refl

  -- a record in front tells its tag and its data
  pub front : {tag tag' d d' x y : List ℕ} → length tag ≡ 6 → length tag' ≡ 6 → length d ≤ 99985 → length d' ≤ 99985 → record_of tag d ++ x ≡ record_of tag' d' ++ y → (tag ≡ tag') × (d ≡ d') × (x ≡ y)
  unfolding record_of
  front {tag} {tag'} {d} {d'} {x} {y} s s' l l' e =
      let flat : (t u z : List ℕ) → record_of t u ++ z ≡ t ++ (digits5 (length u) ++ (u ++ z)) = λ t u z. append_assoc (t ++ digits5 (length u)) u z ∙ append_assoc t (digits5 (length u)) (u ++ z) in
      let a = split_same tag tag' _ _ (s ∙ sym s') (sym (flat tag d x) ∙ e ∙ flat tag' d' y) in
      let b = split_same (digits5 (length d)) (digits5 (length d')) (d ++ x) (d' ++ y) refl a.1 in
      let c = split_same d d' x y (same_number (length d) (length d') (omega arith) (omega arith) b.0) b.1 in
      (a.0, c.0, c.1)

  nonempty : (e : Record) (x : List ℕ) → length e.tag ≡ 6 → [] ≡ record_of e.tag (joined e.spellings) ++ x → ⊥
  unfolding record_of
  nonempty e x s q =
      longest e.tag (digits5 (length (joined e.spellings)) ++ (joined e.spellings ++ x)) (omega arith)
      (q ∙ append_assoc (header e.tag (length (joined e.spellings))) (joined e.spellings) x ∙ append_assoc e.tag (digits5 (length (joined e.spellings))) (joined e.spellings ++ x))

  pub one_list : {l k : List Record} {t u : List (TableRow V)} → AllWhole m l t → AllWhole m k u → written l ≡ written k → (l ≡ k) × (t ≡ u)
  one_list no_rows no_rows e = (refl, refl)
  one_list no_rows (more {e = x} {l = k} w ws) e = never (nonempty x (written k) w.good.six e)
  one_list (more {e = x} {l = k} w ws) no_rows e = never (nonempty x (written k) w.good.six (sym e))
  one_list (more {e = x} {r = r} {l = l} w ws) (more {e = y} {r = q} {l = k} v vs) e =
      let f = front w.good.six v.good.six w.short v.short e in
      let b : Begun m x.tag y.spellings q.fields = subst (λ g. Begun m g y.spellings q.fields) (sym f.0) v.begun in
      let s = begun_one w.begun b f.1 in
      let rest = one_list ws vs f.2 in
      let e0 = f.0 in
      let e1 = s.0 in
      let e2 = s.1 in
      let e3 = rest.0 in
      let e4 = rest.1 in
      let e5 = w.named in
      let e6 = v.named in
      let en : x ≡ y = ap₂ entry e0 e1 in
      let rn : r ≡ q = ap₂ row (e5 ∙ e0 ∙ sym e6) e2 in
      (cc, cc)

  -- the same table is of the same records
  pub same_records : {l k : List Record} {t : List (TableRow V)} → AllWhole m l t → AllWhole m k t → l ≡ k
  same_records no_rows no_rows = refl
  same_records (more {e = x} {r = r} {l = l} w ws) (more {e = y} {l = k} v vs) =
      let e0 : x.tag ≡ y.tag = sym w.named ∙ v.named in
      let b : Begun m x.tag y.spellings r.fields = subst (λ g. Begun m g y.spellings r.fields) (sym e0) v.begun in
      let e1 = begun_spelling w.begun b in
      let en : x ≡ y = ap₂ entry e0 e1 in
      let rest = same_records ws vs in
      cc

  pub same_bytes : {a b : List ℕ} {l k : List Record} {t : List (TableRow V)} → ReadsAs m a l t → ReadsAs m b k t → b ≡ a
  same_bytes x y = y.bytes ∙ ap written (sym (same_records x.whole y.whole)) ∙ sym x.bytes
