use Rattle.std.proofs.Common.{◌≡◌, ap, ◌∙◌}
use Rattle.dc_formats.specs.KeyFile.{keys_bytes}
use Rattle.dc_keyfile.specs.Reading.{keys_from_bytes}
use Rattle.dc_keyfile.specs.Generator.{generated_keys}
use Rattle.dc_keyfile.proofs.Generated.{IsKeys-generated_keys}
use Rattle.dc_keyfile.proofs.DirectWriting.{file_put}
use Rattle.dc_keyfile.proofs.Rereading.{keys_again}
use Rattle.dc_keyfile.proofs.direct_writing.generated_bytes.Goals as goal

-- the bytes are the file
is_written : (c : goal.After-from_vec) → c.from_vec.result ≡ keys_bytes (generated_keys c.args.base.now c.args.g.now c.args.words)
is_written c =
    file_put c.args.base.now c.args.g.now c.args.words c.stations.result c.edge_count-count.result _ _ _ _
    c.stations.ensures.value c.edge_count-count.ensures c.in_ok-bytes.ensures.items c.in_ok-put_head.ensures c.in_ok-put_edges.ensures c.from_vec.ensures

pub returns-clause-written : goal.returns-clause-written
returns-clause-written c = is_written c

pub returns-clause-read : goal.returns-clause-read
returns-clause-read c =
    ap keys_from_bytes (is_written c) ∙ keys_again (generated_keys c.args.base.now c.args.g.now c.args.words)
    (IsKeys-generated_keys c.args.base.now c.args.g.now c.args.words c.stations.ensures.graph c.requires.some_words c.requires.most_words c.requires.most_symbols)
