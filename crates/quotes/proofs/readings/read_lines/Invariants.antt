use Rattle.std.proofs.Common.{◌≡◌, ◌+◌, length, map, string_bytes}
use Rattle.quotes.specs.Readings.{line_step, read_from}
use Rattle.quotes.proofs.readings.read_lines.Given as goal

abbrev pub invariant-loop-number : goal.invariant-loop-number
invariant-loop-number g l =
    let step = line_step g.R.Item.FromWords.from_words g.R.Reading.of_offer g.R.Reading.taking in
    (l.number-iterator.a.start + length l.number-iterator.b.rest.now ≡ length l.lines + 1)
    × (read_from step l.number-iterator.a.start (g.R.Reading.asked l.reading) (map string_bytes l.number-iterator.b.rest.now)
    ≡ read_from step 1 (g.R.Reading.asked l.fn.reading) (map string_bytes l.lines))
