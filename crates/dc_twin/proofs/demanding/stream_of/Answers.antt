use Rattle.std.proofs.Common.{◌≡◌, ◌<◌, ℕ, not, true, false, List, Option, None, get_or, sym, ◌∙◌, ap, arith}
use Rattle.std.specs.Option.{is_some}
use Rattle.std.proofs.lemmas.List.{get_or_default}
use Rattle.dc_spec.specs.Entries.{Stream}
use Rattle.dc_spec.specs.Lists.{is_among}
use Rattle.dc_spec.specs.Net.{Net}
use Rattle.dc_net_rules.proofs.Agreeing.{has_stream}
use Rattle.dc_net.specs.Checked.{IsChecked}
use Rattle.dc_twin.proofs.demanding.stream_of.Goals as goal

-- the place of an honest station has a stream
there : (net : Net) (streams : List (Option Stream)) (at i : ℕ) (o : Option Stream) → IsChecked net → i < net.stations → is_among net.coalition i ≡ false → streams ≡ net.streams → at ≡ i
    → o ≡ get_or streams at o → is_some o ≡ true
there net streams at i o checked low honest same place is =
    let count = checked.streams in
    let read : get_or net.streams i None ≡ o = get_or_default net.streams i None o (omega arith)
    ∙ sym (is ∙ ap (λ (k : ℕ). get_or streams k o) place ∙ ap (λ (xs : List (Option Stream)). get_or xs i o) same) in
    ap (λ (p : Option Stream). is_some p) (sym read) ∙ has_stream net checked.agrees i low ∙ ap not honest

pub unwrap-requires : goal.unwrap-requires
unwrap-requires c =
    c.as_ref.ensures.variant ∙ there c.args.net.now c.as_slice.result.now c.from.result c.args.i _ c.requires.checked c.requires.station c.requires.honest
    (c.as_slice.ensures ∙ ap (λ (n : Net). n.streams) c.net.view_is) c.from.ensures c.index-as_slice-from.is
