-- What a field that is not absent reads as, as a reader of contracts sees it.
use Rattle.std.specs.Prelude.{ℕ, List}
use Rattle.fields.specs.Names.{Named, seen_name}
use Rattle.fields.specs.Segments.{Ending, seen_segment}
use Rattle.rows.specs.declared.value.FieldValue.{FieldValue}
use Rattle.rows.specs.declared.value.FieldValue.TheVariants as value
use Rattle.rows.specs.declared.value.Figure.{Figure}
use Rattle.rows.specs.declared.value.Label.{Label}
use Rattle.rows.specs.declared.value.Spot.{Spot}
use Rattle.rows.specs.declared.value.Writing.{Writing}
use Rattle.rows.specs.declared.value.Writing.TheVariants as val

-- what is written out, with the bytes themselves
pub data Written : Type 0 where
  text : List ℕ → Written
  name : Named → Written
  letters : List ℕ → Written
  segment : Ending → Written
  spaces : Written
  underscore : Written

abbrev pub seen_writing : Writing → Written
seen_writing (val.Text v) = text v.0.now
seen_writing (val.Name v) = name (seen_name v)
seen_writing (val.Letters v) = letters v.0.now
seen_writing (val.EndSegment v) = segment (seen_segment v)
seen_writing val.Spaces = spaces
seen_writing val.Underscore = underscore

pub data Reading : Type 0 where
  figure : Figure → Reading
  writing : Written → Reading
  label : Label → Reading
  spot : Spot → Reading

abbrev pub reading : FieldValue → Reading
reading (value.Figure v) = figure v
reading (value.Writing v) = writing (seen_writing v)
reading (value.Label v) = label v
reading (value.Spot v) = spot v
