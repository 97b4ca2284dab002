use Rattle.std.specs.Prelude.{get_or}
use Rattle.std.proofs.Common.{rules, refl}
use Rattle.std.proofs.lemmas.Iterator.{YieldsList-from_slice}
use Rattle.std.proofs.lemmas.Iterator.Search.{position_from_yields_List}
use Rattle.std.specs.Bool.{beq}
use Rattle.any_words.specs.Text.{is_blank}
use Rattle.any_words.specs.Words.{blank-asked}
use Rattle.any_search.specs.Seek.{seek-as}
use Rattle.any_words.proofs.First.{found-some, found-none}
use Rattle.any_words.proofs.next_where.Goals as goal

pub returns-in-Some : goal.returns-in-Some
returns-in-Some c = seek-as (λ k h. blank-asked c.args.blank c.args.line.now k (is_blank (get_or c.args.line.now k 0)) refl) (found-some (λ x. beq (is_blank x) c.args.blank) _ _ c.requires (position_from_yields_List (λ x. beq (is_blank x) c.args.blank) _ _ _ c.position.ensures.ran (YieldsList-from_slice _ c.iter.ensures.rest) (λ x b q k. search rules)) c.in-Some.is)

pub returns-in-None : goal.returns-in-None
returns-in-None c = seek-as (λ k h. blank-asked c.args.blank c.args.line.now k (is_blank (get_or c.args.line.now k 0)) refl) (found-none (λ x. beq (is_blank x) c.args.blank) _ _ c.requires (position_from_yields_List (λ x. beq (is_blank x) c.args.blank) _ _ _ c.position.ensures.ran (YieldsList-from_slice _ c.iter.ensures.rest) (λ x b q k. search rules)) c.in-None.is)
