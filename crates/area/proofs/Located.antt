-- Walking over records that are known to be sound.
use Rattle.std.proofs.Common.{◌≡◌, ℕ, zero, suc, ◌+◌, ◌<◌, ◌≤◌, List, [], ◌∷◌, ◌++◌, length, get_or, take, drop, sym, refl, ap, ◌∙◌, subst, inl, inr, append_assoc, arith, length-append, drop-drop, take_at, drop_at}
use Rattle.std.proofs.lemmas.Bool.{cases_lt}
use Rattle.std.proofs.lemmas.List.{take_more, drop_all, take_all}
use Rattle.refusal.specs.declared.fault.Fault.{Fault}
use Rattle.model.specs.Records.{Record, GoodTag, joined, digits5, record_of, written}
use Rattle.model.specs.Walks.{Says}
use Rattle.model.specs.Rules.{nothing}
use Rattle.model.proofs.Lists.{never, same_number}
use Rattle.model.proofs.Whole.{written_append, record_length}
use Rattle.model.proofs.Placing.{cut_at}
use Rattle.walk.specs.declared.header.Header.{Header}
use Rattle.walk.specs.Heads.{Headed, Headless}
use Rattle.walk.specs.Heads.Headless.{short, tag, digits, end}
use Rattle.area.specs.Finding.{Sound, Located}

pub sound_at : (l : List Record) (n : ℕ) → n < length l → Sound l → GoodTag (get_or l n nothing).tag × (1 ≤ length (joined (get_or l n nothing).spellings)) × (length (joined (get_or l n nothing).spellings) ≤ 99985)
sound_at [] n h s = let bad : ⊥ = omega arith in never bad
sound_at (e ∷ l) zero h s = (s.0, s.1, s.2)
sound_at (e ∷ l) (suc n) h s = sound_at l n (omega arith) s.3

-- bytes that begin with a record that a header can say
module _ (a : List ℕ) (t d z : List ℕ) (g : GoodTag t) (some : 1 ≤ length d) (few : length d ≤ 99985) (e : a ≡ record_of t d ++ z) where
  flat : a ≡ t ++ (digits5 (length d) ++ (d ++ z))
  unfolding record_of
  flat = e ∙ append_assoc (t ++ digits5 (length d)) d z ∙ append_assoc t (digits5 (length d)) (d ++ z)

  six : take 6 a ≡ t
  six = ap (take 6) flat ∙ take_at t (digits5 (length d) ++ (d ++ z)) 6 g.six

  past6 : drop 6 a ≡ digits5 (length d) ++ (d ++ z)
  past6 = ap (drop 6) flat ∙ drop_at t (digits5 (length d) ++ (d ++ z)) 6 g.six

  said : Says (take 5 (drop 6 a)) (length d)
  said = (ap (take 5) past6, some, few)

  past11 : drop 11 a ≡ d ++ z
  past11 = sym (drop-drop 5 6 a) ∙ ap (drop 5) past6

  long : length a ≡ 11 + length d + length z
  long =
      let l = ap length e ∙ length-append (record_of t d) z in
      let k = record_length t d g.six in
      omega arith

  same_length : (k : ℕ) → Says (take 5 (drop 6 a)) k → k ≡ length d
  same_length k s = let q = s.2 in let w = said in let r = w.2 in same_number k (length d) (omega arith) (omega arith) (sym s.0 ∙ w.0)

  pub never_headless : {at : ℕ} {f : Fault} → Headless at a f → ⊥
  never_headless (short l) = let k = long in omega arith
  never_headless (tag l b) = b (subst GoodTag (sym six) g)
  never_headless (digits l b s) = s (length d) said
  never_headless (end l b k s h) = let q = same_length k s in let j = long in omega arith

  pub headed_is : (h : Header) → Headed a h → (h.tag ≡ t) × (h.data.now ≡ d)
  headed_is h x =
      let n = same_length (length h.data.now) x.says in
      (x.tag ∙ six, x.data_is ∙ ap (λ k. take k (drop 11 a)) n ∙ ap (take (length d)) past11 ∙ take_at d z (length d) refl)

-- in the bytes of the records l, record i begins at this place
module _ (bytes : List ℕ) (l : List Record) (i at : ℕ) (s : Sound l) (e : bytes ≡ written l) (p : at ≡ length (written (take i l))) where
  rest_is : i < length l → drop at bytes ≡ record_of (get_or l i nothing).tag (joined (get_or l i nothing).spellings) ++ written (drop (i + 1) l)
  rest_is h = ap (drop at) (e ∙ cut_at l i h) ∙ drop_at (written (take i l)) _ at (sym p)

  no_rest : length l ≤ i → drop at bytes ≡ []
  no_rest h = let q : take i l ≡ l = take_all i l h in drop_all at bytes (let z = ap length e in let w = p ∙ ap (λ k. length (written k)) q in omega arith)

  pub stop_none : (n : ℕ) {f : Fault} → i ≤ n → Headless at (drop at bytes) f → length l ≤ n
  stop_none n k x =
      elim (cases_lt i (length l)) [
        | inl h ↦ (let w = sound_at l i h s in never (never_headless (drop at bytes) _ _ _ w.0 w.1 w.2 (rest_is h) x))
        | inr h ↦ omega arith
      ]

  still : (h : Header) → Headed (drop at bytes) h → i < length l
  still h x =
      elim (cases_lt i (length l)) [
        | inl k ↦ k
        | inr k ↦ (let q = x.long in let z = ap length (no_rest k) in let bad : ⊥ = omega arith in never bad)
      ]

  pub found : (h : Header) → Headed (drop at bytes) h → Located l i at h
  found h x =
      let k = still h x in
      let w = sound_at l i k s in
      let r = headed_is (drop at bytes) _ _ _ w.0 w.1 w.2 (rest_is k) h x in
      record { there = k; place_is = p; tag_is = r.0; data_is = r.1 }

  pub next_record : (h : Header) → Headed (drop at bytes) h → (i + 1 ≤ length l) × (at + (11 + length h.data.now) ≡ length (written (take (i + 1) l)))
  next_record h x =
      let f = found h x in
      let k = f.there in
      let en = get_or l i nothing in
      let r = record_of en.tag (joined en.spellings) in
      let w = sound_at l i k s in
      let t = ap (λ j. length (written j)) (take_more l i nothing k) ∙ ap length (written_append (take i l) (en ∷ [])) ∙ length-append (written (take i l)) (r ++ []) in
      let u = record_length en.tag (joined en.spellings) w.0.six in
      let v = length-append r [] in
      let y = ap length f.data_is in
      (omega arith, omega arith)
