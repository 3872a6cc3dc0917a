use Rattle.issued.specs.Meant.{fields_of}
use Rattle.issued.proofs.Naming.{found}
use Rattle.issued.proofs.names.field_name.Goals as goal

pub returns : goal.returns
returns c = found (fields_of c.args.tag.now) c.in_ok-names_of.field-0.now c.in_ok-names_of.ensures c.args.number c.get.result c.copied.result c.get.ensures.lookup c.copied.ensures
