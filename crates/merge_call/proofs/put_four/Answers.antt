use Rattle.std.proofs.Common.{ap, ◌∙◌, List, ℕ}
use Rattle.std.proofs.lemmas.List.Edits.{sets}
use Rattle.merge_call.specs.Reply.{two_bytes}
use Rattle.merge_call.specs.Replies.{four-places}
use Rattle.merge_call.proofs.put_four.Goals as goal

pub returns : goal.returns
returns c =
    let x = c.args in
    c.put_place-4.ensures
    ∙ ap (λ (l : List ℕ). sets l 6 (two_bytes x.s)) c.put_place-3.ensures
    ∙ ap (λ (l : List ℕ). sets (sets l 4 (two_bytes x.r)) 6 (two_bytes x.s)) c.put_place-2.ensures
    ∙ ap (λ (l : List ℕ). sets (sets (sets l 2 (two_bytes x.q)) 4 (two_bytes x.r)) 6 (two_bytes x.s)) c.put_place.ensures
    ∙ four-places x.p x.q x.r x.s x.places.now c.requires
