-- The Day-Ahead process: which records are taken, and the bounds of their amounts.
use Rattle.std.specs.Prelude.{◌≡◌, List, ℤ, Some, None, unsigned_abs}
use Rattle.std.proofs.Common.{arith}
use Rattle.std.proofs.lemmas.Int.{ints}
use Rattle.offers.specs.Prices.{Lawful}
use Rattle.market.specs.declared.day_ahead.DayAheadRecord.{DayAheadRecord}
use Rattle.market.specs.declared.refusal.ProcessRefusal.{ProcessRefusal}
use Rattle.market.specs.Curves.{tenth_refusal}
use Rattle.market.specs.DayAhead.{day_ahead_figures, day_ahead_fields, day_ahead_limits, day_ahead_field_refusal, day_ahead_refusal, day_ahead_amounts, day_ahead_meaning, DayAheadTaken}
use Rattle.market.specs.Laws.{Bounded, LawfulRefusal, LawfulMeaning}
use Rattle.market.specs.Costs.{cost-within}
use Rattle.market.specs.Fields.{none-refused, all-taken, field-named}
use Rattle.market.specs.Products.{sold_within}
use Rattle.market.specs.Refusing.{or-none, lawful-unless, tenth-none, none-tenth, tenth-named, either-named}

module _ (ps : List ℤ) (x : DayAheadRecord) where
  -- a record is taken just where nothing refuses it
  pub taken_hour : day_ahead_refusal ps x ≡ None → DayAheadTaken ps x
  unfolding day_ahead_refusal
  taken_hour h =
      let n = or-none (day_ahead_field_refusal x) (tenth_refusal ps (unsigned_abs x.cleared)) h in
      record { fields = none-refused 1 day_ahead_limits (day_ahead_fields x) n.0; cleared = tenth-none ps (unsigned_abs x.cleared) n.1 }

  pub hour_taken : DayAheadTaken ps x → day_ahead_refusal ps x ≡ None
  unfolding day_ahead_refusal
  hour_taken t = rw (all-taken 1 day_ahead_limits (day_ahead_fields x) t.fields, none-tenth ps (unsigned_abs x.cleared) t.cleared)

  hour-bounded : Lawful ps → DayAheadTaken ps x → Bounded day_ahead_figures (day_ahead_amounts ps x)
  hour-bounded l t =
      let energy = cost-within ps (unsigned_abs x.cleared) l in
      let sold = sold_within x.cleared x.price t.fields.0 t.fields.1.0 in
      let no_load = t.fields.1.1.0 in
      let reserve_cost = t.fields.1.1.1.0 in
      let reserve_revenue = t.fields.1.1.1.1.0 in
      record {
        cost = (omega (arith, ints), omega (arith, ints));
        revenue = (omega (arith, ints), omega (arith, ints));
        disallowed = (omega (arith, ints), omega (arith, ints));
      }

  hour-named : (e : ProcessRefusal) → day_ahead_refusal ps x ≡ Some e → LawfulRefusal e
  unfolding day_ahead_refusal
  hour-named e h = either-named (day_ahead_field_refusal x) (tenth_refusal ps (unsigned_abs x.cleared)) (λ e. field-named 1 day_ahead_limits (day_ahead_fields x) e (omega arith)) (tenth-named ps (unsigned_abs x.cleared)) e h

  pub hour-lawful : Lawful ps → LawfulMeaning day_ahead_figures (day_ahead_meaning ps x)
  hour-lawful l = lawful-unless day_ahead_figures (day_ahead_refusal ps x) (day_ahead_amounts ps x) (λ h. hour-bounded l (taken_hour h)) hour-named
