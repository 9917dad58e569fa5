-- Tags and limits, by name.
use Rattle.std.specs.Prelude.{ℕ}

-- ---- tags

abbrev pub group : ℕ
group = 1

abbrev pub time : ℕ
time = 2

abbrev pub temperature : ℕ
temperature = 3

abbrev pub pressure : ℕ
pressure = 4

abbrev pub pascals : ℕ
pascals = 5

abbrev pub humidity : ℕ
humidity = 6

abbrev pub missing : ℕ
missing = 7

-- ---- limits

abbrev pub most_bytes : ℕ
most_bytes = 65535

-- steps of a record: a list of so many holds any
abbrev pub most_steps : ℕ
most_steps = 14799

-- groups in groups, the record's own counted
abbrev pub levels : ℕ
levels = 4

-- what four bytes hold
abbrev pub most_word : ℕ
most_word = 0xFFFFFFFF

abbrev pub most_humidity : ℕ
most_humidity = 102400

abbrev pub most_pascals : ℕ
most_pascals = 16777215

-- the numbers of a missing answer
abbrev pub first_missing : ℕ
first_missing = 10

abbrev pub last_missing : ℕ
last_missing = 14
