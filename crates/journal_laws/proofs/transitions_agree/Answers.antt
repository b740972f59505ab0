use Rattle.std.proofs.Common.{[], None}
use Rattle.journal_laws.proofs.Transitions.{write_plans, strong_plans, sends_alike, send_plans, accept_plans, again_plans, lost_plans, whole_plans, mine_plans, new_plans, theirs_plans}
use Rattle.journal_laws.proofs.Takes.{row_plans}
use Rattle.journal_laws.proofs.transitions_agree.Goals as goal

pub returns-clause-write : goal.returns-clause-write
returns-clause-write k = write_plans

pub returns-clause-strong : goal.returns-clause-strong
returns-clause-strong k = strong_plans

pub returns-clause-may_send : goal.returns-clause-may_send
returns-clause-may_send k = λ meaning slots. sends_alike 0 meaning (record { last = 0; tables = []; plan = None }) 0 [] slots.main slots.shadow slots.out slots.conflict

pub returns-clause-sends : goal.returns-clause-sends
returns-clause-sends k = λ c meaning d table row slots size pieces out is spells. send_plans c meaning d table row size slots.main slots.shadow slots.out slots.conflict pieces out is spells

pub returns-clause-accepted : goal.returns-clause-accepted
returns-clause-accepted k = λ c meaning d table row slots out version waits all. accept_plans c meaning d table row slots out waits version all

pub returns-clause-again : goal.returns-clause-again
returns-clause-again k = λ c meaning d table row slots out version waits all. again_plans c meaning d table row slots out waits version all

pub returns-clause-refused : goal.returns-clause-refused
returns-clause-refused k = λ c meaning d table row slots out latest waits. lost_plans c meaning d table row slots out waits latest

pub returns-clause-whole : goal.returns-clause-whole
returns-clause-whole k = λ c meaning d table row slots out waits all part. whole_plans c meaning d table row slots out waits all part

pub returns-clause-row : goal.returns-clause-row
returns-clause-row k = λ c meaning d table row scheme yours x names slots position newer named. row_plans c meaning d table row scheme yours x names named slots position newer

pub returns-clause-mine : goal.returns-clause-mine
returns-clause-mine k = mine_plans

pub returns-clause-other : goal.returns-clause-other
returns-clause-other k = λ c meaning d table row slots main x content open_ held. new_plans c meaning d table row slots main x open_ held content

pub returns-clause-theirs : goal.returns-clause-theirs
returns-clause-theirs k = theirs_plans
