use Rattle.std.proofs.Common.{length, List, subst, sym, ap, ◌∙◌, All}
use Rattle.dc_spec.specs.Scripts.{Said, delivered_words}
use Rattle.dc_script.specs.Delivered.{delivered}
use Rattle.dc_net.specs.Rows.{IsWithin}
use Rattle.dc_net.proofs.rows.push_heard.Goals as goal

pub push_rules-requires-clause-within : goal.push_rules-requires-clause-within
push_rules-requires-clause-within c =
    subst (λ (dealt : List Said). All (IsWithin (length c.args.words.now) c.args.n) dealt) (ap (λ d. delivered_words (delivered d)) c.in-Each.is
    ∙ sym c.as_slice.ensures) c.requires.within
