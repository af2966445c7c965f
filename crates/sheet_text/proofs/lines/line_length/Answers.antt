use Rattle.std.proofs.Common.{rules}
use Rattle.sheet_text.proofs.LinesLemmas.{feed_at, no_feed}
use Rattle.sheet_text.proofs.lines.line_length.Goals as goal

pub returns-in-Some : goal.returns-in-Some
returns-in-Some c = feed_at c.args.text.now c.in-Some.at (search rules) (search rules) (search rules)

pub returns-in-None : goal.returns-in-None
returns-in-None c = no_feed c.args.text.now (search rules)
