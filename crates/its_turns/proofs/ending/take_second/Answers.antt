use Rattle.its_turns.proofs.ending.take_second.Goals as goal

pub take_translator-requires-clause-there : goal.take_translator-requires-clause-there
take_translator-requires-clause-there c = c.requires.there c.if-translators-eq2.true
