-- A search over places, one after another: as a loop makes it, and as the definitions say it. Assumes nothing.
use Rattle.std.specs.Prelude.{◌≡◌, refl, Bool, true, false, ℕ, zero, suc, ◌+◌, ◌≤◌, ◌<◌}
use Rattle.std.proofs.Common.{sym, ap, ◌∙◌, true≢false, arith}
use Rattle.std.proofs.Math.Option.{none, some}
use Rattle.std.proofs.Math.Decide.{dec_lt}
use Rattle.any_search.specs.Places.{from, found, seek}

-- None of the places from a up to i passes the test, and i is at most `end`.
pub record Seeking (test : ℕ → Bool) (a end i : ℕ) : Type 0 where
  pub low : a ≤ i
  pub high : i ≤ end
  pub none : (k : ℕ) → a ≤ k → k < i → test k ≡ false

-- r is the first place from a on that passes the test, or `end`.
pub record Sought (test : ℕ → Bool) (a end r : ℕ) : Type 0 where
  pub low : a ≤ r
  pub high : r ≤ end
  pub none : (k : ℕ) → a ≤ k → k < r → test k ≡ false
  pub hit : r < end → test r ≡ true

-- ---- the loop

module _ {test : ℕ → Bool} {a end : ℕ} where
  pub seek-starts : a ≤ end → Seeking test a end a
  seek-starts h = record { low = omega arith; high = h; none = λ k l u. absurd (omega arith) }

  module _ {i : ℕ} (s : Seeking test a end i) where
    pub seek-more : i < end → test i ≡ false → Seeking test a end (i + 1)
    seek-more h e = record { low = let l = s.low in omega arith; high = omega arith; none = λ k l u. go k l u (dec_lt k i) }
      where
        go : (k : ℕ) → a ≤ k → k < i + 1 → Dec (k < i) → test k ≡ false
        go k l u (yes b) = s.none k l b
        go k l u (no b) = let same : k ≡ i = omega arith in ap test same ∙ e

    pub seek-hits : test i ≡ true → Sought test a end i
    seek-hits e = record { low = s.low; high = s.high; none = s.none; hit = λ h. e }

    pub seek-ends : end ≤ i → Sought test a end i
    seek-ends h = record { low = s.low; high = s.high; none = s.none; hit = λ k. absurd (omega arith) }

    -- None of the places that are left passes.
    pub seek-over : ((k : ℕ) → i ≤ k → k < end → test k ≡ false) → Sought test a end end
    seek-over f = record { low = let l = s.low in let h = s.high in omega arith; high = omega arith; none = λ k l u. go k l u (dec_lt k i); hit = λ h. absurd (omega arith) }
      where
        go : (k : ℕ) → a ≤ k → k < end → Dec (k < i) → test k ≡ false
        go k l u (yes b) = s.none k l b
        go k l u (no b) = f k (omega arith) u

-- Another test that says the same of these places.
pub seek-as : {test test' : ℕ → Bool} {a end r : ℕ} → ((k : ℕ) → k < end → test k ≡ test' k) → Sought test a end r → Sought test' a end r
seek-as f s = record {
  low = s.low;
  high = s.high;
  none = λ k l u. sym (f k (let h = s.high in omega arith)) ∙ s.none k l u;
  hit = λ h. sym (f _ h) ∙ s.hit h;
}

-- None of the places before a passes either.
pub seek-before : {test : ℕ → Bool} {a end r : ℕ} → ((k : ℕ) → k < a → test k ≡ false) → Sought test a end r → Sought test 0 end r
seek-before {test} {a} {end} {r} f s = record { low = omega arith; high = s.high; none = λ k l u. go k u (dec_lt k a); hit = s.hit }
  where
    go : (k : ℕ) → k < r → Dec (k < a) → test k ≡ false
    go k u (yes b) = f k b
    go k u (no b) = s.none k (omega arith) u

-- ---- the definition

module _ (test : ℕ → Bool) (end r : ℕ) where
  -- One place less to search.
  less : (a : ℕ) → a < end → Sought test a end r → test a ≡ false → Sought test (suc a) end r
  less a h s e = record { low = go (dec_lt a r); high = s.high; none = λ k l u. s.none k (omega arith) u; hit = s.hit }
    where
      go : Dec (a < r) → suc a ≤ r
      go (yes b) = b
      go (no b) =
          let same : r ≡ a = (let l = s.low in omega arith) in
          absurd (true≢false (sym (s.hit (omega arith)) ∙ ap test same ∙ e))

  first : (a : ℕ) → Sought test a end r → test a ≡ true → r ≡ a
  first a s e = go (dec_lt a r)
    where
      go : Dec (a < r) → r ≡ a
      go (yes b) = absurd (true≢false (sym e ∙ s.none a (omega arith) b))
      go (no b) = let l = s.low in omega arith

  pub seek-some : (a n : ℕ) → a + n ≡ end → Sought test a end r → r < end → seek test (from a n) ≡ some r
  seek-some a zero i s h = absurd (let l = s.low in omega arith)
  seek-some a (suc n) i s h = go (test a) refl (seek-some (suc a) n (omega arith))
    where
      go : (b : Bool) → test a ≡ b → (Sought test (suc a) end r → r < end → seek test (from (suc a) n) ≡ some r) → found b a (seek test (from (suc a) n)) ≡ some r
      go true e f = ap some (sym (first a s e))
      go false e f = f (less a (omega arith) s e) h

  pub seek-none : (a n : ℕ) → a + n ≡ end → Sought test a end r → end ≤ r → seek test (from a n) ≡ none
  seek-none a zero i s h = refl
  seek-none a (suc n) i s h = go (test a) refl (seek-none (suc a) n (omega arith))
    where
      go : (b : Bool) → test a ≡ b → (Sought test (suc a) end r → end ≤ r → seek test (from (suc a) n) ≡ none) → found b a (seek test (from (suc a) n)) ≡ none
      go true e f = absurd (let same = first a s e in omega arith)
      go false e f = f (less a (omega arith) s e) h
