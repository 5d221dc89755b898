use Rattle.std.proofs.Common.{rules}
use Rattle.quotes.proofs.Numbers.{number_told}
use Rattle.quotes.proofs.lines.number.Goals as goal

pub returns : goal.returns
returns c = number_told c.args.word.now _ _ c.parse.ensures.value.0 (λ e fault h. search rules) c.map_err.ensures.cases
