-- Prometheus' text format, version 0.0.4: the lines of a number, or of several with one name and different labels.
use Rattle.std.specs.Prelude.{ℕ, List, [], ◌++◌, codes, decimal}
use Rattle.kdc_metrics.specs.declared.prometheus.NumberType.{NumberType}
use Rattle.kdc_metrics.specs.declared.prometheus.NumberType.TheVariants.{Counter, Gauge}

abbrev pub type_word : NumberType → List ℕ
type_word Counter = codes " counter\n"
type_word Gauge = codes " gauge\n"

abbrev pub type_line : List ℕ → NumberType → List ℕ
type_line name number_type = codes "\n# TYPE " ++ name ++ type_word number_type

-- what stands in front of the samples of a name
abbrev pub head : List ℕ → NumberType → List ℕ → List ℕ
head name number_type help = codes "# HELP " ++ name ++ codes " " ++ help ++ type_line name number_type

abbrev pub value_text : ℕ → List ℕ
value_text value = codes " " ++ decimal value ++ codes "\n"

-- a sample, with labels that are a text in braces, or nothing
abbrev pub sample : List ℕ → List ℕ → ℕ → List ℕ
sample name labels value = name ++ labels ++ value_text value

-- a name that has one sample, without labels
abbrev pub single : List ℕ → NumberType → List ℕ → ℕ → List ℕ
single name number_type help value = head name number_type help ++ sample name [] value
