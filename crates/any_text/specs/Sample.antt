-- Lines in bytes. Assumes nothing.
use Rattle.std.specs.Prelude.{◌≡◌, refl, [], ◌∷◌}
use Rattle.any_text.specs.Decimal.{digits, decimal}
use Rattle.any_text.specs.Lines.{record_line, writes_line, write_line, refused_line}

-- "0" and "10000"
pub zero-digits : decimal 0 ≡ 48 ∷ []
unfolding digits decimal
zero-digits = refl

pub all_digits : decimal 10000 ≡ 49 ∷ 48 ∷ 48 ∷ 48 ∷ 48 ∷ []
unfolding digits decimal
all_digits = refl

-- "5 10 1 0"
pub record-line : record_line 5 10 1 0 ≡ 53 ∷ 32 ∷ 49 ∷ 48 ∷ 32 ∷ 49 ∷ 32 ∷ 48 ∷ 10 ∷ []
unfolding digits decimal record_line
record-line = refl

-- "writes 1"
pub writes-line : writes_line 1 ≡ 119 ∷ 114 ∷ 105 ∷ 116 ∷ 101 ∷ 115 ∷ 32 ∷ 49 ∷ 10 ∷ []
unfolding digits decimal writes_line
writes-line = refl

-- "8 123"
pub write-line : write_line 8 123 ≡ 56 ∷ 32 ∷ 49 ∷ 50 ∷ 51 ∷ 10 ∷ []
unfolding digits decimal write_line
write-line = refl

-- "refused 9"
pub refused-line : refused_line 9 ≡ 114 ∷ 101 ∷ 102 ∷ 117 ∷ 115 ∷ 101 ∷ 100 ∷ 32 ∷ 57 ∷ 10 ∷ []
unfolding digits decimal refused_line
refused-line = refl
