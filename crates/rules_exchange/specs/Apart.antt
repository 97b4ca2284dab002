-- Rules over parts that lie apart may change places, whatever the rules say. Assumes nothing.
use Rattle.std.specs.Prelude.{◌≡◌, refl}
use Rattle.std.proofs.Common.{sym}
use Rattle.rules.specs.Part.{Result, Out, refuse, done, Part, settle, via}

-- Two parts that lie apart: neither reads what the other writes, and the two writes may change places.
pub record Apart {S R W R' W' : Type 0} (p : Part S R W) (q : Part S R' W') : Type 0 where
  pub unread : (w : W) (s : S) → q.get (p.put w s) ≡ q.get s
  pub unread' : (w : W') (s : S) → p.get (q.put w s) ≡ p.get s
  pub order : (w : W) (w' : W') (s : S) → q.put w' (p.put w s) ≡ p.put w (q.put w' s)

-- Two steps that may change places at a state: they leave one state, and each answers as it does alone.
pub record Commute {A S : Type 0} (f g : S → Result A S) (s : S) : Type 0 where
  pub same : (g (f s).state).state ≡ (f (g s).state).state
  pub first : (f (g s).state).answer ≡ (f s).answer
  pub second : (g (f s).state).answer ≡ (g s).answer

pub apart-sym : {S R W R' W' : Type 0} {p : Part S R W} {q : Part S R' W'} → Apart p q → Apart q p
apart-sym a = record { unread = a.unread'; unread' = a.unread; order = λ w w' s. sym (a.order w' w s) }

-- Whatever a rule says, a part that lies apart reads as before.
reads : {A S R W R' W' : Type 0} {p : Part S R W} {q : Part S R' W'} → Apart p q → (s : S) (o : Out A W) → q.get (settle p s o).state ≡ q.get s
reads a s (refuse x) = refl
reads a s (done x w) = a.unread w s

-- A rule's answer does not depend on the state that it is settled in.
answers : {A S R W : Type 0} (p : Part S R W) (s t : S) (o : Out A W) → (settle p s o).answer ≡ (settle p t o).answer
answers p s t (refuse a) = refl
answers p s t (done a w) = refl

module _ {A S R W R' W' : Type 0} {p : Part S R W} {q : Part S R' W'} (a : Apart p q) where
  both : (s : S) (o : Out A W) (o' : Out A W') → (settle q (settle p s o).state o').state ≡ (settle p (settle q s o').state o).state
  both s (refuse x) (refuse y) = refl
  both s (refuse x) (done y w) = refl
  both s (done x v) (refuse y) = refl
  both s (done x v) (done y w) = a.order v w s

  pub via-commute : (f : R → Out A W) (g : R' → Out A W') (s : S) → Commute (via p f) (via q g) s
  via-commute f g s =
      let x = reads a s (f (p.get s)) in
      let y = reads (apart-sym a) s (g (q.get s)) in
      record {
        same = rw (x, y) (both s (f (p.get s)) (g (q.get s)));
        first = rw y (answers p _ _ (f (p.get s)));
        second = rw x (answers q _ _ (g (q.get s)));
      }
