use Rattle.simba_top.proofs.Grammars.{grammar}
use Rattle.simba_top.proofs.OneEnd.{not_bad, not_limit, bad_limit_apart, bad_is_one, limit_is_one, bad_is_last, limit_is_last}
use Rattle.simba_top.proofs.OneCut.{cut_is_one, cut_is_front}
use Rattle.simba_top.proofs.laws.one_end.Goals as goal

pub returns-clause-whole_bad : goal.returns-clause-whole_bad
returns-clause-whole_bad c = λ input a b count fault whole bad. not_bad grammar input b a count fault bad whole

pub returns-clause-whole_limit : goal.returns-clause-whole_limit
returns-clause-whole_limit c = λ input a b count limit whole at. not_limit grammar input b a count limit at whole

pub returns-clause-bad_limit : goal.returns-clause-bad_limit
returns-clause-bad_limit c = bad_limit_apart grammar

pub returns-clause-one_bad : goal.returns-clause-one_bad
returns-clause-one_bad c = bad_is_one grammar

pub returns-clause-one_limit : goal.returns-clause-one_limit
returns-clause-one_limit c = limit_is_one grammar

pub returns-clause-bad_cut : goal.returns-clause-bad_cut
returns-clause-bad_cut c = λ input a b n fault left bad cut. bad_is_last grammar input a b n cut.count cut.names _ cut.front fault bad

pub returns-clause-limit_cut : goal.returns-clause-limit_cut
returns-clause-limit_cut c = λ input a b n limit left at cut. limit_is_last grammar input a b n cut.count cut.names _ cut.front limit at

pub returns-clause-one_cut : goal.returns-clause-one_cut
returns-clause-one_cut c = cut_is_one grammar

pub returns-clause-whole_cut : goal.returns-clause-whole_cut
returns-clause-whole_cut c = cut_is_front grammar
