-- The RUC process: which records are taken, and the bounds of their amounts.
use Rattle.std.specs.Prelude.{◌≡◌, ◌≤◌, Bool, cond, not, ◌&&◌, List, ℤ, pos, ◌+ℤ◌, ◌-ℤ◌, ◌≤ℤ◌, Some, None, Option, unsigned_abs}
use Rattle.std.proofs.Common.{arith}
use Rattle.std.proofs.lemmas.Int.{ints}
use Rattle.std.specs.Int.{int_max}
use Rattle.offers.specs.Answers.{or_else}
use Rattle.offers.specs.Prices.{Lawful}
use Rattle.market.specs.declared.refusal.ProcessRefusal.{ProcessRefusal}
use Rattle.market.specs.declared.ruc_record.RucRecord.{RucRecord}
use Rattle.market.specs.Curves.{cost_up_to, tenth_refusal}
use Rattle.market.specs.Laws.{Within, Bounded, LawfulRefusal, LawfulMeaning}
use Rattle.market.specs.Reliability.{ruc_figures, ruc_fields, ruc_limits, ruc_field_refusal, ruc_refusal, ruc_amounts, ruc_meaning, RucTaken, held_output, energy_cost, economic_point, excess_cost, off_setpoint, non_dispatchable}
use Rattle.market.specs.Costs.{cost-by-two, cost-apart}
use Rattle.market.specs.Fields.{none-refused, all-taken, field-named}
use Rattle.market.specs.Products.{sold_within}
use Rattle.market.specs.Refusing.{or-none, lawful-unless, tenth-none, none-tenth, tenth-named, either-named}

-- a power within its limits
tenths-of : (n : ℤ) → pos 0 ≤ℤ n → n ≤ℤ pos 10000 → unsigned_abs n ≤ 10000
tenths-of n low high = omega (arith, ints)

max-low : (z : ℤ) → pos 0 ≤ℤ int_max z (pos 0)
max-low z = grind (arith, ints)

-- grounds two and three exclude each other, so that at most two disallow
grounds-bounded : (a b c : Bool) (excess : ℤ) → pos 0 ≤ℤ excess → excess ≤ℤ pos 1000000000 → (pos 0 ≤ℤ (cond a excess (pos 0) +ℤ cond b excess (pos 0) +ℤ cond (c && not b) excess (pos 0))) × ((cond a excess (pos 0) +ℤ cond b excess (pos 0) +ℤ cond (c && not b) excess (pos 0)) ≤ℤ pos 2000000000)
grounds-bounded a b c excess low high = (grind (arith, ints), grind (arith, ints))

module _ (committed current : List ℤ) (x : RucRecord) where
  -- the checks of a record, in order
  abbrev fields : Option ProcessRefusal
  fields = ruc_field_refusal x

  abbrev decided : Option ProcessRefusal
  decided = tenth_refusal committed (unsigned_abs x.commitment_minimum)

  abbrev least : Option ProcessRefusal
  least = tenth_refusal current (unsigned_abs x.commitment_minimum)

  abbrev most : Option ProcessRefusal
  most = tenth_refusal current (unsigned_abs x.maximum)

  abbrev output : Option ProcessRefusal
  output = tenth_refusal current (unsigned_abs x.actual)

  -- a record is taken just where nothing refuses it
  pub taken_interval : ruc_refusal committed current x ≡ None → RucTaken committed current x
  unfolding ruc_refusal
  taken_interval h =
      let a = or-none fields (or_else decided (or_else least (or_else most output))) h in
      let b = or-none decided (or_else least (or_else most output)) a.1 in
      let c = or-none least (or_else most output) b.1 in
      let d = or-none most output c.1 in
      record {
        fields = none-refused 1 (ruc_limits x) (ruc_fields x) a.0;
        decided = tenth-none committed (unsigned_abs x.commitment_minimum) b.0;
        least = tenth-none current (unsigned_abs x.commitment_minimum) c.0;
        most = tenth-none current (unsigned_abs x.maximum) d.0;
        output = tenth-none current (unsigned_abs x.actual) d.1;
      }

  pub interval_taken : RucTaken committed current x → ruc_refusal committed current x ≡ None
  unfolding ruc_refusal
  interval_taken t =
      rw (
        all-taken 1 (ruc_limits x) (ruc_fields x) t.fields,
        none-tenth committed (unsigned_abs x.commitment_minimum) t.decided,
        none-tenth current (unsigned_abs x.commitment_minimum) t.least,
        none-tenth current (unsigned_abs x.maximum) t.most,
        none-tenth current (unsigned_abs x.actual) t.output,
      )

  module _ (l : Lawful committed) (k : Lawful current) (t : RucTaken committed current x) where
    output-few : unsigned_abs x.actual ≤ 10000
    output-few = tenths-of x.actual t.fields.1.1.1.1.0.0 t.fields.1.1.1.1.0.1

    point-few : economic_point current x ≤ 10000
    point-few = let most = t.most in let few = k.few in omega arith

    -- priced by two curves, the energy of a record lies within the bounds of one
    pub energy-within : Within 1000000000 (energy_cost committed current x)
    energy-within = cost-by-two committed current (held_output x) (unsigned_abs x.actual) l k (omega arith) output-few

    -- and so does its excess
    pub excess-within : Within 1000000000 (excess_cost current x)
    excess-within =
        let apart = cost-apart current (unsigned_abs x.actual) (economic_point current x) k output-few point-few in
        (grind (arith, ints), grind (arith, ints))

    interval-bounded : Bounded ruc_figures (ruc_amounts committed current x)
    interval-bounded =
        let energy = energy-within in
        let no_load = t.fields.1.1.1.1.1.1.1.0 in
        let reserve_cost = t.fields.1.1.1.1.1.1.1.1.1.1.0 in
        let sold = sold_within x.actual x.price t.fields.1.1.1.1.0 t.fields.1.1.1.1.1.1.0 in
        let other = t.fields.1.1.1.1.1.1.1.1.1.0 in
        record {
          cost = (omega (arith, ints), omega (arith, ints));
          revenue = (omega (arith, ints), omega (arith, ints));
          disallowed = grounds-bounded (off_setpoint x) (non_dispatchable x) _ (excess_cost current x) (max-low (cost_up_to current (unsigned_abs x.actual) -ℤ cost_up_to current (economic_point current x))) excess-within.1;
        }

  interval-named : (e : ProcessRefusal) → ruc_refusal committed current x ≡ Some e → LawfulRefusal e
  unfolding ruc_refusal
  interval-named e h =
      either-named fields (or_else decided (or_else least (or_else most output))) (λ e. field-named 1 (ruc_limits x) (ruc_fields x) e (omega arith))
      (either-named decided (or_else least (or_else most output)) (tenth-named committed (unsigned_abs x.commitment_minimum))
      (either-named least (or_else most output) (tenth-named current (unsigned_abs x.commitment_minimum))
      (either-named most output (tenth-named current (unsigned_abs x.maximum)) (tenth-named current (unsigned_abs x.actual)))))
      e h

  pub interval-lawful : Lawful committed → Lawful current → LawfulMeaning ruc_figures (ruc_meaning committed current x)
  interval-lawful l k = lawful-unless ruc_figures (ruc_refusal committed current x) (ruc_amounts committed current x) (λ h. interval-bounded l k (taken_interval h)) interval-named
