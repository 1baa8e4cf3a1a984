use Rattle.std.proofs.Common.{◌∙◌, ap, subst}
use Rattle.std.specs.List.{All}
use Rattle.dc_spec.specs.Net.{Net}
use Rattle.dc_net.specs.Checked.{KeepsStream}
use Rattle.dc_net.proofs.net_rules.note_net.Goals as goal

pub returns : goal.returns
returns c =
    let graph = c.note_files.ensures.graph in
    let same = c.as_slice.ensures ∙ ap (λ (n : Net). n.streams) c.net.view_is in
    record {
      graph = λ k d lt. (let e = graph.are_edges k d lt in (e.ends, e.within));
      edges_rise = λ i d lt. (let e = graph.rising i d lt in record { lesser = e.lesser; greater = e.greater });
      keys = c.note_files.ensures.keys;
      script = c.note_files.ensures.script;
      streams = c.requires.streams;
      are_streams = subst (All KeepsStream) same c.note_streams.ensures;
      members = c.requires.members;
      agrees = c.requires.agrees;
    }
