-- What is counted after one verdict more, for src/counts. Assumes nothing.
use Rattle.std.specs.Prelude.{ℕ, ◌+◌, ◌-◌, ◌^◌, min}
use Rattle.lasso.specs.declared.value.Value.{Value}
use Rattle.lasso.specs.declared.value.Value.TheVariants.{No, Open, Yes}
use Rattle.bench_verdict.specs.declared.counts.Counts.{Counts}

abbrev pub nothing_counted : Counts
nothing_counted = record { no = 0; unsettled = 0; yes = 0 }

-- one more, as far as the numbers go
abbrev pub more : ℕ → ℕ
more n = min (n + 1) (2 ^ 64 - 1)

abbrev pub counted : Value → Counts → Counts
counted No c = record { no = more c.no; unsettled = c.unsettled; yes = c.yes }
counted Open c = record { no = c.no; unsettled = more c.unsettled; yes = c.yes }
counted Yes c = record { no = c.no; unsettled = c.unsettled; yes = more c.yes }
