use Rattle.std.proofs.Common.{◌≡◌, length, rules}
use Rattle.libraries.proofs.Joins.{two_taken}
use Rattle.libraries.proofs.page.Page.take_two.Goals as goal

pub returns : goal.returns
returns c =
    let long : length c.self.inside.codes ≡ 256 = search rules in
    rw (← c.self.view_is)
    (two_taken c.self.inside.codes c.copy_within.new.self c.fill.new.self c.args.place c.requires long (rw long at c.copy_within.ensures.after) (c.fill.ensures.after (λ y e. e)))
