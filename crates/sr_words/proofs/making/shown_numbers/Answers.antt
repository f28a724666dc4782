use Rattle.sr_words.proofs.making.shown_numbers.Goals as goal

pub returns-in-None-number_shown : goal.returns-in-None-number_shown
returns-in-None-number_shown c = λ numbers have. c.in-None-number_shown.ensures numbers.1 have.start

pub returns-in-None : goal.returns-in-None
returns-in-None c = λ numbers have. c.in-None.ensures numbers.0 have.nodes
