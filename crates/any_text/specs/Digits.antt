-- What is expected of decimal digits: they are digits with no zero in front, they say the number, and a number below 10^k has at most k of them. Assumes nothing.
use Rattle.std.specs.Prelude.{◌≡◌, refl, Bool, true, false, List, [], ◌∷◌, ◌++◌, ℕ, zero, suc, ◌+◌, ◌*◌, ◌-◌, ◌/◌, ◌%◌, ◌^◌, ◌≤◌, ◌<◌, leb, length, get_or}
use Rattle.std.proofs.Common.{ap, mod-eq_of_lt, arith, length-append, leb-true, leb-false}
use Rattle.std.proofs.Math.Nat.{div-eq_of_lt, pow-succ'}
use Rattle.std.proofs.Math.ListN.{get_or-append}
use Rattle.any_text.specs.Decimal.{digit, digits, decimal, said_after}

-- ---- the last digit, and those before it

enough : (f g n : ℕ) → n ≤ f → n ≤ g → digits f n ≡ digits g n
unfolding digits
enough zero zero n hf hg = refl
enough zero (suc g) zero hf hg = refl
enough zero (suc g) (suc n) hf hg = absurd (omega arith)
enough (suc f) zero zero hf hg = refl
enough (suc f) zero (suc n) hf hg = absurd (omega arith)
enough (suc f) (suc g) zero hf hg = refl
enough (suc f) (suc g) (suc n) hf hg = ap (λ (l : List ℕ). l ++ (digit (suc n % 10) ∷ [])) (enough f g (suc n / 10) (omega arith) (omega arith))

none : (most : ℕ) → digits most 0 ≡ []
unfolding digits
none zero = refl
none (suc most) = refl

some : (most n : ℕ) → 0 < n → n ≤ most → digits most n ≡ decimal n
unfolding digits decimal
some zero n p h = absurd (omega arith)
some (suc most) zero p h = absurd (omega arith)
some (suc most) (suc n) p h = ap (λ (l : List ℕ). l ++ (digit (suc n % 10) ∷ [])) (enough most (suc n) (suc n / 10) (omega arith) (omega arith))

pub decimal-last : (n : ℕ) → n < 10 → decimal n ≡ digit n ∷ []
unfolding decimal
decimal-last n h = rw (div-eq_of_lt h, none n, mod-eq_of_lt h)

pub decimal-more : (n : ℕ) → 10 ≤ n → decimal n ≡ decimal (n / 10) ++ (digit (n % 10) ∷ [])
unfolding decimal
decimal-more n h = ap (λ (l : List ℕ). l ++ (digit (n % 10) ∷ [])) (some n (n / 10) (omega arith) (omega arith))

-- ---- what holds of one digit, and of a number once it holds without the last digit

module _ (P : ℕ → Type 0) (one : (n : ℕ) → n < 10 → P n) (more : (n : ℕ) → 10 ≤ n → P (n / 10) → P n) where
  either : (b : Bool) (n : ℕ) → leb 10 n ≡ b → P (n / 10) → P n
  either true n e p = more n (leb-true _ _ e) p
  either false n e p = one n (leb-false _ _ e)

  up_to : (most n : ℕ) → n ≤ most → P n
  up_to zero n h = one n (omega arith)
  up_to (suc most) n h = either (leb 10 n) n refl (up_to most (n / 10) (omega arith))

  pub by_digits : (n : ℕ) → P n
  by_digits n = up_to n n (omega arith)

-- ---- they are digits

pub data Digits : List ℕ → Type 0 where
  end : Digits []
  next : {d : ℕ} {l : List ℕ} → d < 10 → Digits l → Digits (digit d ∷ l)

digits-then : (l : List ℕ) (d : ℕ) → d < 10 → Digits l → Digits (l ++ (digit d ∷ []))
digits-then l d h end = next h end
digits-then l d h (next k r) = next k (digits-then _ d h r)

pub only-digits : (n : ℕ) → Digits (decimal n)
only-digits = by_digits (λ n. Digits (decimal n)) (λ n h. rw (decimal-last n h) (next h end)) (λ n h r. rw (decimal-more n h) (digits-then (decimal (n / 10)) (n % 10) (omega arith) r))

-- ---- none of them is missing

pub some-digit : (n : ℕ) → 1 ≤ length (decimal n)
some-digit = by_digits (λ n. 1 ≤ length (decimal n)) (λ n h. rw (decimal-last n h) (omega arith)) (λ n h r. rw (decimal-more n h) (simp length-append (omega arith)))

pub no-leading-zero : (n : ℕ) → 0 < n → digit 0 < get_or (decimal n) 0 0
no-leading-zero = by_digits (λ n. 0 < n → digit 0 < get_or (decimal n) 0 0)
    (λ n h p. rw (decimal-last n h) (omega arith))
    (λ n h r p. rw (decimal-more n h, get_or-append (decimal (n / 10)) (digit (n % 10) ∷ []) 0 0 (some-digit (n / 10))) (r (omega arith)))

-- ---- they say the number

said-then : (before : ℕ) (l : List ℕ) (d : ℕ) → said_after before (l ++ (digit d ∷ [])) ≡ 10 * said_after before l + d
said-then before [] d = omega arith
said-then before (b ∷ l) d = said-then (10 * before + (b - digit 0)) l d

pub says-itself : (n : ℕ) → said_after 0 (decimal n) ≡ n
says-itself = by_digits (λ n. said_after 0 (decimal n) ≡ n) (λ n h. rw (decimal-last n h) (omega arith)) (λ n h r. rw (decimal-more n h, said-then 0 (decimal (n / 10)) (n % 10), r) (omega arith))

-- ---- how many there are

width-more : (n : ℕ) → 10 ≤ n → ((k : ℕ) → n / 10 < 10 ^ suc k → length (decimal (n / 10)) ≤ suc k) → (k : ℕ) → n < 10 ^ suc k → length (decimal n) ≤ suc k
width-more n h r zero p = absurd (let q : n < 10 = p in omega arith)
width-more n h r (suc k) p =
    let q : n < 10 * 10 ^ suc k = rw (← pow-succ' 10 (suc k)) p in
    let l = r k (omega arith) in
    rw (decimal-more n h) (simp length-append (omega arith))

pub width : (n k : ℕ) → n < 10 ^ suc k → length (decimal n) ≤ suc k
width = by_digits (λ n. (k : ℕ) → n < 10 ^ suc k → length (decimal n) ≤ suc k) (λ n h k p. rw (decimal-last n h) (omega arith)) width-more
