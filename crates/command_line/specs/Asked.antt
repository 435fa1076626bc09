-- What a request asks for.
use Rattle.command_line.specs.declared.request.Request.{Request}
use Rattle.command_line.specs.declared.request.Request.TheVariants.{Run, Profile, Judge, Check, Upgrade, Generate, Count}
use Rattle.command_line.specs.Requests.{Asked, run, profile, judge, check, upgrade, generate, count}
use Rattle.command_line.specs.Rounds.{asked_rounds}

abbrev pub asked : Request → Asked
asked (Run r) = run r.options.file.now r.options.limit r.options.workers (asked_rounds r.options.rounds) r.journal
asked (Profile p) = profile p.options.file.now p.options.limit p.options.workers (asked_rounds p.options.rounds)
asked (Judge j) = judge j.file.now j.journal.now j.limit
asked (Check c) = check c.file.now
asked (Upgrade u) = upgrade u.file.now
asked (Generate g) = generate g.layers g.workers
asked (Count c) = count c.word.now c.file.now c.grain c.workers
