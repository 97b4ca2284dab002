use Rattle.std.specs.Prelude.{eqb}
use Rattle.std.proofs.Common.{rules}
use Rattle.std.proofs.lemmas.Iterator.{YieldsList-from_slice}
use Rattle.std.proofs.lemmas.Iterator.Search.{position_from_yields_List}
use Rattle.any_words.proofs.First.{found-some, found-none}
use Rattle.any_words.proofs.next_byte.Goals as goal

pub returns-in-Some : goal.returns-in-Some
returns-in-Some c = found-some (λ x. eqb x c.args.byte) _ _ c.requires (position_from_yields_List (λ x. eqb x c.args.byte) _ _ _ c.position.ensures.ran (YieldsList-from_slice _ c.iter.ensures.rest) (λ x b q k. search rules)) c.in-Some.is

pub returns-in-None : goal.returns-in-None
returns-in-None c = found-none (λ x. eqb x c.args.byte) _ _ c.requires (position_from_yields_List (λ x. eqb x c.args.byte) _ _ _ c.position.ensures.ran (YieldsList-from_slice _ c.iter.ensures.rest) (λ x b q k. search rules)) c.in-None.is
