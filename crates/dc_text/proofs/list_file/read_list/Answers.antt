use Rattle.std.proofs.Common.{◌∙◌, ap, subst}
use Rattle.dc_field.specs.Answers.{Answers}
use Rattle.dc_text.specs.ListFiles.{list_from_bytes}
use Rattle.dc_text.proofs.ListLines.{is_found, read_again}
use Rattle.dc_text.proofs.list_file.read_list.Goals as goal

pub returns-clause-found : goal.returns-clause-found
returns-clause-found g c =
    let f = g.F.ListItem in
    is_found f.item f.IsItem f.text_of c.args.bad c.args.most g.met.F.ListItem.has_texts c.args.bytes.now c.read_items.result c.read_items.ensures

pub returns-clause-only : goal.returns-clause-only
returns-clause-only g c = λ xs are e.
    let f = g.F.ListItem in
    let again = read_again f.item f.IsItem f.text_of c.args.bad c.args.most g.met.F.ListItem.has_texts xs are in
    subst (λ due. Answers c.read_items.result due) (ap (list_from_bytes f.item c.args.bad c.args.most) e ∙ again) c.read_items.ensures
