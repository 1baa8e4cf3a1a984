use Rattle.std.proofs.Common.{◌≡◌, ℕ, ◌≤◌, List, [], ◌∷◌, ◌++◌, length, All, ◌∙◌, ap, subst, arith, length-append}
use Rattle.std.proofs.lemmas.List.Elements.{All-nil, All-cons, All-append}
use Rattle.dc_spec.specs.Entries.{Stream}
use Rattle.dc_formats.specs.TextFile.{AreBytes}
use Rattle.dc_formats.specs.StreamFile.{IsMessage}
use Rattle.dc_stream.proofs.stream.Stream.with_long.Goals as goal

-- one more message
one_more : (longs : List (List ℕ)) (message : List ℕ) → All IsMessage longs → length message ≤ 3838 → AreBytes message → All IsMessage (longs ++ message ∷ [])
one_more longs message are most bytes = All-append IsMessage longs (message ∷ []) are (All-cons IsMessage message [] (record { most = most; are_bytes = bytes }) (All-nil IsMessage))

pub invariant_of-result : goal.invariant_of-result
invariant_of-result c =
    let is = c.self.invariant in
    let longs : c.from_vec.result ≡ c.self.inside.longs ++ c.args.message ∷ [] = c.from_vec.ensures ∙ c.in_ok-push.ensures.items ∙ ap (λ (ls : List (List ℕ)). ls ++ c.args.message ∷ []) c.into_vec-items.ensures in
    let same : length c.self.inside.longs ≡ length c.args.self.longs = ap (λ (s : Stream). length s.longs) c.self.view_is in
    record {
      most_shorts = is.most_shorts;
      are_values = is.are_values;
      most_longs = rw longs (omega (arith, length-append c.self.inside.longs (c.args.message ∷ []), same));
      are_messages = rw longs (one_more c.self.inside.longs c.args.message is.are_messages c.requires.message (subst AreBytes c.as_slice.ensures c.note_bytes.ensures));
      most_coins = is.most_coins;
      are_fields = is.are_fields;
    }
