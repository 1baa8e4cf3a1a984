use Rattle.std.proofs.Common.{ap, ◌∙◌}
use Rattle.dc_field.specs.SymbolInText.{symbol_of_text}
use Rattle.dc_field.proofs.SymbolText.{symbol_found, symbol_of_text-symbol_text}
use Rattle.dc_field.proofs.symbol_from_text.read_symbol_text.Goals as goal

pub returns-clause-found : goal.returns-clause-found
returns-clause-found c = symbol_found c.args.b.now c.read_symbol.result c.read_symbol.ensures

pub returns-clause-only : goal.returns-clause-only
returns-clause-only c = λ x is e. c.read_symbol.ensures ∙ ap symbol_of_text e ∙ symbol_of_text-symbol_text x is
