use Rattle.std.proofs.Common.{arith}
use Rattle.lpi_config.proofs.Sizes.{size_of}
use Rattle.lpi_config.proofs.config.lpi_count.Goals as goal

pub overflow_sub-result : goal.overflow_sub-result
overflow_sub-result c = let s = size_of c.args.lpi_bits c.requires.low c.requires.high in omega arith

pub returns-clause-words : goal.returns-clause-words
returns-clause-words c = let s = size_of c.args.lpi_bits c.requires.low c.requires.high in omega arith

pub returns-clause-groups : goal.returns-clause-groups
returns-clause-groups c = let s = size_of c.args.lpi_bits c.requires.low c.requires.high in omega arith

pub returns-clause-most : goal.returns-clause-most
returns-clause-most c = let s = size_of c.args.lpi_bits c.requires.low c.requires.high in omega arith
