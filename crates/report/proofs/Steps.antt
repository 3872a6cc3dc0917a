-- What each step puts behind the text.
use Rattle.std.proofs.Common.{◌≡◌, ℕ, zero, suc, ◌+◌, ◌-◌, ◌<◌, ◌≤◌, List, [], ◌∷◌, ◌++◌, length, get_or, drop, sym, refl, ap, ◌∙◌, ap₂, append_assoc, append-nil, arith}
use Rattle.std.proofs.lemmas.List.{at_drop_more, at_drop_all}
use Rattle.area.specs.declared.answer.Entry.{Entry}
use Rattle.area.specs.Finding.{Located}
use Rattle.lines.specs.Lines.{record_line, field_line, with_line}
use Rattle.model.specs.Records.{Record, joined}
use Rattle.model.specs.Rules.{nothing}
use Rattle.model.proofs.Lists.{never}
use Rattle.walk.specs.declared.header.Header.{Header}
use Rattle.report.specs.Entries.{head_line, entry_lines, entries_lines}
use Rattle.report.specs.Listings.{ended}

-- a line that was added is the line with its newline
pub lined : (text line : List ℕ) → with_line text line ≡ text ++ ended line
lined text line = append_assoc text line (10 ∷ [])

-- field 0 opens a record, and the others do not
opening : (l : List Record) (e : Entry) (k : ℕ) → k ≤ 0 → head_line l e k ≡ ended (record_line e.«record» (e.place - 11) (length (joined (get_or l e.«record» nothing).spellings)) (get_or l e.«record» nothing).tag)
opening l e zero h = refl
opening l e (suc k) h = let bad : ⊥ = omega arith in never bad

pub no_head : (l : List Record) (e : Entry) (k : ℕ) → 0 < k → head_line l e k ≡ []
no_head l e zero h = let bad : ⊥ = omega arith in never bad
no_head l e (suc k) h = refl

-- the record's line
pub head_put : (l : List Record) (e : Entry) (h : Header) (before after line : List ℕ) → e.field ≤ 0 → Located l e.«record» (e.place - 11) h → after ≡ with_line before line → line ≡ record_line e.«record» (e.place - 11) (length h.data.now) h.tag → after ≡ before ++ head_line l e e.field
head_put l e h before after line z f a b =
    let known = b ∙ ap₂ (record_line e.«record» (e.place - 11)) (ap length f.data_is) f.tag_is in
    a ∙ lined before line ∙ ap (λ x. before ++ x) (ap ended known ∙ sym (opening l e e.field z))

-- the field's line
pub field_put : (l : List Record) (e : Entry) (before between after line : List ℕ) → between ≡ before ++ head_line l e e.field → after ≡ with_line between line → line ≡ field_line e.field e.place e.width → after ≡ before ++ entry_lines l e
field_put l e before between after line h a b =
    a ∙ lined between line ∙ ap₂ (λ x y. x ++ ended y) h b ∙ append_assoc before (head_line l e e.field) (ended (field_line e.field e.place e.width))

-- one more entry
pub entry_again : (l : List Record) (es : List Entry) (i : ℕ) (d : Entry) (text after whole : List ℕ) → i < length es → after ≡ text ++ entry_lines l (get_or es i d) → text ++ entries_lines l (drop i es) ≡ whole → after ++ entries_lines l (drop (i + 1) es) ≡ whole
entry_again l es i d text after whole h a inv =
    let rest = entries_lines l (drop (i + 1) es) in
    let e : entries_lines l (drop i es) ≡ entry_lines l (get_or es i d) ++ rest = at_drop_more (entries_lines l) es i d h in
    ap (λ x. x ++ rest) a ∙ append_assoc text (entry_lines l (get_or es i d)) rest ∙ ap (λ x. text ++ x) (sym e) ∙ inv

-- all entries are there
pub entries_end : (l : List Record) (es : List Entry) (i : ℕ) (text whole : List ℕ) → length es ≤ i → text ++ entries_lines l (drop i es) ≡ whole → text ≡ whole
entries_end l es i text whole h inv =
    let e : entries_lines l (drop i es) ≡ [] = at_drop_all (entries_lines l) es i h in
    sym (append-nil text) ∙ ap (λ x. text ++ x) (sym e) ∙ inv
