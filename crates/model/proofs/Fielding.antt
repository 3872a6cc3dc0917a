-- The state of a reading of a record's data, and what each turn does to it.
use Rattle.std.proofs.Common.{◌≡◌, ℕ, ◌+◌, ◌-◌, ◌<◌, ◌≤◌, Bool, true, false, List, [], ◌∷◌, ◌++◌, length, take, drop, Some, None, sym, refl, ap, ◌∙◌, subst, arith, length-drop, take-append-drop, length-take-le, take_all, drop-drop, take-add}
use Rattle.std.proofs.lemmas.List.{length_push}
use Rattle.book.specs.Meaning.{Meaning, field}
use Rattle.refusal.specs.declared.fault.Fault.{Fault}
use Rattle.refusal.specs.declared.fault.Cause.TheVariants.{Unread, EndsEarly, PastDone}
use Rattle.refusal.specs.Faults.{fault}
use Rattle.model.specs.Records.{TableField, Fields, joined}
use Rattle.model.specs.Records.Value.{read}
use Rattle.model.specs.Records.Fields.{none}
use Rattle.model.specs.Walks.{Fails}
use Rattle.model.specs.Walks.Fails.{ends, unread, past, later}
use Rattle.model.specs.Looks.{Fielded}
use Rattle.model.proofs.Lists.{joined_push}
use Rattle.model.proofs.Whole.{fields_push}

-- the first i bytes of d are k fields, and what the rest gives, the whole gives
pub record Sofar {V : Type 0} (m : Meaning V) (draft : Bool) (n : ℕ) (tag : List ℕ) (base : ℕ) (d : List ℕ) (i k : ℕ) : Type 0 where
  pub within : i ≤ length d
  pub few : k ≤ i
  pub front : List (List ℕ)
  pub got : List (TableField V)
  pub fields : Fields m tag [] front got
  pub bytes : joined front ≡ take i d
  pub counted : length front ≡ k
  pub falls : (f : Fault) → Fails m draft n tag base (take i d) (drop i d) k f → Fails m draft n tag base [] d 0 f

pub begun : {V : Type 0} (m : Meaning V) (draft : Bool) (n : ℕ) (tag : List ℕ) (base : ℕ) (d : List ℕ) → Sofar m draft n tag base d 0 0
begun m draft n tag base d = record { within = omega arith; few = omega arith; front = []; got = []; fields = none; bytes = refl; counted = refl; falls = λ f x. x }

module _ {V : Type 0} {m : Meaning V} {draft : Bool} {n base i k : ℕ} {tag d : List ℕ} (s : Sofar m draft n tag base d i k) where
  here : length (take i d) ≡ i
  here = length-take-le i d s.within

  left_over : length (drop i d) ≡ length d - i
  left_over = length-drop i d

  pub stop_past : m.asks tag (take i d) ≡ None → 0 < length d - i → Fails m draft n tag base [] d 0 (fault PastDone (base + i) n 0)
  stop_past e h = s.falls _ (subst (λ x. Fails m draft n tag base (take i d) (drop i d) k (fault PastDone (base + x) n 0)) here (past e (rw left_over h)))

  pub stop_ends : {nm w : ℕ} → m.asks tag (take i d) ≡ Some (field nm w) → length d - i < w → (draft ≡ true → 0 < length d - i) → Fails m draft n tag base [] d 0 (fault EndsEarly (base + i) n k)
  stop_ends {nm} {w} e h q = s.falls _ (subst (λ x. Fails m draft n tag base (take i d) (drop i d) k (fault EndsEarly (base + x) n k)) here (ends {name = nm} {w = w} e (rw left_over h) (λ z. rw left_over (q z))))

  module _ {nm w : ℕ} (e : m.asks tag (take i d) ≡ Some (field nm w)) (h : w ≤ length d - i) where
    cut_length : length (take w (drop i d)) ≡ w
    cut_length = length-take-le w (drop i d) (rw left_over h)

    e' : m.asks tag (take i d) ≡ Some (field nm (length (take w (drop i d))))
    e' = e ∙ ap (λ z. Some (field nm z)) (sym cut_length)

    pub stop_unread : m.reads tag (take i d) (take w (drop i d)) ≡ None → Fails m draft n tag base [] d 0 (fault Unread (base + i) n k)
    stop_unread r = s.falls _ (subst (λ x. Fails m draft n tag base (take i d) (drop i d) k (fault Unread (base + x) n k)) here (unread {name = nm} (take w (drop i d)) (drop w (drop i d)) e' (sym (take-append-drop w (drop i d))) r))

    pub one_more : {v : V} → 1 ≤ w → m.reads tag (take i d) (take w (drop i d)) ≡ Some v → Sofar m draft n tag base d (i + w) (k + 1)
    one_more {v} pos r =
        let a : m.asks tag (joined s.front) ≡ Some (field nm (length (take w (drop i d)))) = subst (λ x. m.asks tag x ≡ Some (field nm (length (take w (drop i d))))) (sym s.bytes) e' in
        let q : m.reads tag (joined s.front) (take w (drop i d)) ≡ Some v = subst (λ x. m.reads tag x (take w (drop i d)) ≡ Some v) (sym s.bytes) r in
        record {
          within = omega (arith, s.within);
          few = omega (arith, s.few);
          front = s.front ++ (take w (drop i d) ∷ []);
          got = s.got ++ (record { name = nm; value = read v } ∷ []);
          fields = fields_push s.fields a q;
          bytes = joined_push s.front (take w (drop i d)) ∙ ap (λ x. x ++ take w (drop i d)) s.bytes ∙ sym (take-add i w d);
          counted = length_push s.front _ ∙ ap (λ x. x + 1) s.counted;
          falls = λ f x. s.falls f (later {name = nm} {v = v} (take w (drop i d)) (drop w (drop i d)) e' (sym (take-append-drop w (drop i d))) r (rw (← take-add i w d, drop-drop w i d) x));
        }

  pub whole : {M : Type 0} {stands : List ℕ → List ℕ → M → Type 0} {mark : M} → m.knows tag ≡ true → length d - i ≤ 0 → stands tag (take i d) mark → (draft ≡ false → m.asks tag (take i d) ≡ None) → Fielded m stands draft tag d (record { mark = mark; count = k })
  whole {stands = stands} {mark = mark} kn h st dn =
      let e : take i d ≡ d = take_all i d (omega arith) in
      record {
        known = kn;
        spellings = s.front;
        fields = s.got;
        are = s.fields;
        bytes = s.bytes ∙ e;
        count = s.counted;
        mark = subst (λ x. stands tag x mark) e st;
        done = λ z. subst (λ x. m.asks tag x ≡ None) e (dn z);
      }

pub cut : (i w : ℕ) → i + w - i ≡ w
cut i w = omega arith

pub cut_long : (d : List ℕ) (i w : ℕ) → w ≤ length d - i → length (take w (drop i d)) ≡ w
cut_long d i w k = length-take-le w (drop i d) (rw length-drop k)

pub not_true : {b : Bool} → b ≡ true → b ≡ false → ⊥
not_true p q = let z : ◌≡◌ {A = ℕ} 0 1 = cc in omega arith
