use Rattle.std.proofs.Common.{rules}
use Rattle.quotes.proofs.Numbers.{width_told}
use Rattle.quotes.proofs.lines.width.Goals as goal

pub returns : goal.returns
returns c = width_told c.args.word.now _ _ c.parse.ensures.value.0 (λ e fault h. search rules) c.map_err.ensures.cases
