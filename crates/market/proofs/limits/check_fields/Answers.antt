use Rattle.std.proofs.Common.{◌≡◌, ◌+◌, sym, ap, ◌∙◌, rules}
use Rattle.std.proofs.lemmas.Iterator.{YieldsList-from_slice, YieldsList-from_zip}
use Rattle.std.proofs.lemmas.Iterator.Adapters.{position_from-zero}
use Rattle.std.proofs.lemmas.Iterator.Search.{position_from_yields_List}
use Rattle.std.specs.List.{zip}
use Rattle.std.specs.Option.{option_map}
use Rattle.market.specs.declared.refusal.ProcessRefusal.TheVariants.{FieldOutsideLimits}
use Rattle.market.specs.Fields.{none-refused}
use Rattle.market.specs.Limits.{field_refusal}
use Rattle.market.proofs.Fields.{is_outside, refusal-position}
use Rattle.market.proofs.limits.check_fields.Given.{Over}
use Rattle.market.proofs.limits.check_fields.Goals.{After-position-outside}
use Rattle.market.proofs.limits.check_fields.Goals as goal

-- what the chain found is the refusal
found : (g : Over) (c : After-position-outside g) → field_refusal 1 c.args.limits c.args.fields ≡ option_map (λ k. FieldOutsideLimits (k + 1)) c.position-outside.result
found g c =
    let pairs = YieldsList-from_zip {s = c.zip.result} (YieldsList-from_slice c.args.limits cc) (YieldsList-from_slice c.args.fields cc) in
    let place = position_from_yields_List is_outside c.position-outside.new.self _ c.position-outside.result c.position-outside.ensures.ran pairs (λ x b q k. search rules) in
    refusal-position 0 c.args.limits c.args.fields ∙ sym (ap (option_map (λ k. FieldOutsideLimits (k + 1))) (place ∙ position_from-zero is_outside (zip c.args.limits c.args.fields)))

pub returns-in-Some-clause-value : goal.returns-in-Some-clause-value
returns-in-Some-clause-value g c = rw (found g ((goal.at.returns-in-Some-clause-value g c).After-position-outside), c.in-Some.is)

pub returns-in-None-clause-value : goal.returns-in-None-clause-value
returns-in-None-clause-value g c = rw (found g ((goal.at.returns-in-None-clause-value g c).After-position-outside), c.in-None.is)

pub returns-in-None-clause-admitted : goal.returns-in-None-clause-admitted
returns-in-None-clause-admitted g c = none-refused 1 c.args.limits c.args.fields (rw (found g ((goal.at.returns-in-None-clause-admitted g c).After-position-outside), c.in-None.is))
