-- What reads is not refused.
use Rattle.std.proofs.Common.{◌≡◌, ℕ, ◌+◌, ◌<◌, ◌≤◌, Bool, true, false, List, [], ◌++◌, length, None, sym, refl, ap, ◌∙◌, subst, append_assoc, append-nil, arith, length-append, Some}
use Rattle.book.specs.Meaning.{Meaning, Laws, field}
use Rattle.refusal.specs.declared.fault.Fault.{Fault}
use Rattle.model.specs.Records.{Record, TableField, TableRow, GoodTag, Fields, Begun, Full, AllWhole, joined, digits5, record_of, written}
use Rattle.model.specs.Records.Fields.{none, next}
use Rattle.model.specs.Records.Begun.{known, bare, lump}
use Rattle.model.specs.Records.Full.{asked, filled}
use Rattle.model.specs.Records.AllWhole.{none as no_rows, more}
use Rattle.model.specs.Walks.{Fails, Refuses}
use Rattle.model.specs.Walks.Fails.{ends, unread, past, later}
use Rattle.model.specs.Walks.Refuses.{short, badtag, badlength, cutoff, inside, later as after}
use Rattle.model.proofs.Lists.{split_same, clash, same_width, both, never, same_number}
use Rattle.model.proofs.Unique.{front}

longest : (s x : List ℕ) → 1 ≤ length s → [] ≡ s ++ x → ⊥
longest s x h e = let l = ap length e ∙ length-append s x in omega arith

longer : (d s x : List ℕ) → length d < length s → d ≡ s ++ x → ⊥
longer d s x h e = let l = ap length e ∙ length-append s x in omega arith

empty : (d : List ℕ) → 0 < length d → d ≡ [] → ⊥
empty d h e = let l = ap length e in omega arith

-- where a record may end: a draft anywhere, another where the book is done
abbrev pub May : {V : Type 0} → Meaning V → Bool → List ℕ → List ℕ → Type 0
May m true tag p = Unit {0}
May m false tag p = m.asks tag p ≡ None

no_end : {V : Type 0} (m : Meaning V) (draft : Bool) (tag p : List ℕ) {n w : ℕ} (d : List ℕ) → m.asks tag p ≡ Some (field n w) → (draft ≡ true → 0 < length d) → d ≡ [] → May m draft tag (p ++ []) → ⊥
no_end m true tag p d a h e y = empty d (h refl) e
no_end m false tag p d a h e y = clash a (subst (λ x. m.asks tag x ≡ None) (append-nil p) y)

module _ {V : Type 0} {m : Meaning V} (laws : Laws m) where
  pub fails_apart : {draft : Bool} {n base : ℕ} {tag p d : List ℕ} {k : ℕ} {f : Fault} {ss : List (List ℕ)} {fs : List (TableField V)} → Fails m draft n tag base p d k f → Fields m tag p ss fs → d ≡ joined ss → May m draft tag (p ++ joined ss) → ⊥
  fails_apart {draft} {tag = tag} {p = p} {d = d} (ends a l h) none e y = no_end m draft tag p d a h e y
  fails_apart {d = d} (ends a l h) (next {s = s} {ss = ss} b r g) e y = let w = same_width a b in longer d s (joined ss) (omega arith) e
  fails_apart {tag = tag} {p = p} (unread {name = nm} s x a q u) none e y = longest s x (laws.wide tag p nm (length s) a).0 (sym e ∙ q)
  fails_apart {tag = tag} {p = p} (unread s x a q u) (next {s = s'} {ss = ss} {v = v} b r g) e y =
      let z = split_same s s' x (joined ss) (same_width a b) (sym q ∙ e) in
      clash r (subst (λ i. m.reads tag p i ≡ None) z.0 u)
  fails_apart {d = d} (past a h) none e y = empty d h e
  fails_apart (past a h) (next b r g) e y = clash b a
  fails_apart {tag = tag} {p = p} (later {name = nm} s x a q u f) none e y = longest s x (laws.wide tag p nm (length s) a).0 (sym e ∙ q)
  fails_apart {draft} {n = n} {base = base} {tag = tag} {p = p} {f = fault} (later {k = k} s x a q u f) (next {s = s'} {ss = ss} {v = v} b r g) e y =
      let z = split_same s s' x (joined ss) (same_width a b) (sym q ∙ e) in
      let f' : Fails m draft n tag base (p ++ s') x (k + 1) fault = subst (λ i. Fails m draft n tag base (p ++ i) x (k + 1) fault) z.0 f in
      fails_apart f' g z.1 (subst (May m draft tag) (sym (append_assoc p s' (joined ss))) y)

  -- a record that the book takes has data
  pub some_data : {tag : List ℕ} {ss : List (List ℕ)} {fs : List (TableField V)} → Begun m tag ss fs → Full m tag ss → 1 ≤ length (joined ss)
  some_data {tag} (known k none) (asked i a) = never (laws.first tag k a)
  some_data {tag} (known k (next {p = p} {s = s} {ss = ss} {n = n} b r g)) (asked i a) = let w = (laws.wide tag p n (length s) b).0 in let l = length-append s (joined ss) in omega arith
  some_data (known k f) (filled i h) = never (both k i)
  some_data (bare k) (asked i a) = never (both i k)
  some_data (bare k) (filled i h) = let bad : ⊥ = omega arith in never bad
  some_data (lump k h) (asked i a) = never (both i k)
  some_data (lump {s = s} k h) (filled i j) = let l = length-append s [] in omega arith

  flat : (t u z : List ℕ) → record_of t u ++ z ≡ t ++ (digits5 (length u) ++ (u ++ z))
  unfolding record_of
  flat t u z = append_assoc (t ++ digits5 (length u)) u z ∙ append_assoc t (digits5 (length u)) (u ++ z)

  pub at_least : (t u z : List ℕ) → length t ≡ 6 → length (record_of t u ++ z) ≡ 11 + length u + length z
  at_least t u z s =
      let l = ap length (flat t u z) ∙ length-append t (digits5 (length u) ++ (u ++ z)) in
      let k = length-append u z in
      omega arith

  pub record_inside : {n base : ℕ} {tag : List ℕ} {f : Fault} {ss : List (List ℕ)} {fs : List (TableField V)} → m.knows tag ≡ true → Fails m false n tag base [] (joined ss) 0 f → Begun m tag ss fs → Full m tag ss → ⊥
  record_inside k f (known i g) (asked j a) = fails_apart f g refl a
  record_inside k f (known i g) (filled j h) = both k j
  record_inside k f (bare i) u = both k i
  record_inside k f (lump i h) u = both k i

  pub refuses_apart : {a : List ℕ} {at n : ℕ} {f : Fault} {l : List Record} {t : List (TableRow V)} → Refuses m at n a f → AllWhole m l t → a ≡ written l → ⊥
  refuses_apart {a = a} (short h j) no_rows e = empty a h e
  refuses_apart {a = a} (badtag tag x q s h g) no_rows e = longest tag x (omega arith) (sym e ∙ q)
  refuses_apart {a = a} (badlength tag five x q g s h) no_rows e = let s = g.six in longest tag (five ++ x) (omega arith) (sym e ∙ q)
  refuses_apart {a = a} (cutoff tag five x k q g s h) no_rows e = let s = g.six in longest tag (five ++ x) (omega arith) (sym e ∙ q)
  refuses_apart {a = a} (inside tag d x q g h j k f) no_rows e = let s = g.six in longest tag _ (omega arith) (sym e ∙ q ∙ flat tag d x)
  refuses_apart {a = a} (after y r x q w f) no_rows e = let s = w.good.six in longest y.tag _ (omega arith) (sym e ∙ q ∙ flat y.tag (joined y.spellings) x)
  refuses_apart {a = a} (short h j) (more {e = y} {l = l} v vs) e =
      let z = ap length e ∙ at_least y.tag (joined y.spellings) (written l) v.good.six in omega arith
  refuses_apart {a = a} (badtag tag x q s h g) (more {e = y} {l = l} v vs) e =
      let z = split_same tag y.tag _ _ (s ∙ sym v.good.six) (sym q ∙ e ∙ flat y.tag (joined y.spellings) (written l)) in
      g (subst GoodTag (sym z.0) v.good)
  refuses_apart {a = a} (badlength tag five x q g s h) (more {e = y} {l = l} v vs) e =
      let d = joined y.spellings in
      let z = split_same tag y.tag _ _ (g.six ∙ sym v.good.six) (sym q ∙ e ∙ flat y.tag d (written l)) in
      let u = split_same five (digits5 (length d)) x (d ++ written l) s z.1 in
      h (length d) (u.0, some_data v.begun v.full, v.short)
  refuses_apart {a = a} (cutoff tag five x k q g s h) (more {e = y} {l = l} v vs) e =
      let d = joined y.spellings in
      let z = split_same tag y.tag _ _ (g.six ∙ sym v.good.six) (sym q ∙ e ∙ flat y.tag d (written l)) in
      let u = split_same five (digits5 (length d)) x (d ++ written l) (ap length s.0) z.1 in
      let v0 = v.short in
      let s2 = s.2 in
      let same : k ≡ length d = same_number k (length d) (omega arith) (omega arith) (sym s.0 ∙ u.0) in
      let w = ap length u.1 ∙ length-append d (written l) in
      omega arith
  refuses_apart {a = a} (inside {at = at} {n = n} {f = fault} tag d x q g h j k f) (more {e = y} {l = l} v vs) e =
      let z = front laws g.six v.good.six j v.short (sym q ∙ e) in
      let k' : m.knows y.tag ≡ true = subst (λ i. m.knows i ≡ true) z.0 k in
      let f1 : Fails m false n y.tag (at + 11) [] d 0 fault = subst (λ i. Fails m false n i (at + 11) [] d 0 fault) z.0 f in
      let f2 : Fails m false n y.tag (at + 11) [] (joined y.spellings) 0 fault = subst (λ i. Fails m false n y.tag (at + 11) [] i 0 fault) z.1 f1 in
      record_inside k' f2 v.begun v.full
  refuses_apart {a = a} (after w r x q u f) (more {e = y} {l = l} v vs) e =
      let z = front laws u.good.six v.good.six u.short v.short (sym q ∙ e) in
      refuses_apart f vs z.2
