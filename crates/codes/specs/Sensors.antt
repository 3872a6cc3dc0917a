-- Sensor types: SAR and a space, or else a category and a format.
use Rattle.std.specs.Prelude.{◌≡◌, ℕ, List, [], ◌∷◌, length, Some, Option, refl}
use Rattle.std.proofs.Common.{arith}
use Rattle.kind.specs.Kinds.{Laws}
use Rattle.kinds.specs.declared.layers.Both.{Both}
use Rattle.kinds.specs.declared.layers.Either.{Either}
use Rattle.kinds.specs.declared.layers.Either.TheVariants.{First, Second}
use Rattle.kinds.specs.Layers.{either, either_laws, seq, seq_laws}
use Rattle.kinds.specs.Texts.{word, word_laws}
use Rattle.codes.specs.declared.sensor.Category.{Category}
use Rattle.codes.specs.declared.sensor.Category.TheVariants.{HighInfrared, MediumInfrared, LowInfrared, HighMultispectral, MediumMultispectral, LowMultispectral, HighVisible, MediumVisible, LowVisible, VideoFrame}
use Rattle.codes.specs.declared.sensor.Format.{Format}
use Rattle.codes.specs.declared.sensor.Format.TheVariants.{Frame, LineScan, Pushbroom, PanScan}
use Rattle.codes.specs.declared.sensor.Sensor.{Sensor}
use Rattle.codes.specs.declared.sensor.Sensor.TheVariants.{Radar, Optical}
use Rattle.kinds.specs.Listing.{Spelt, listed, listed_laws, apart_in}
use Rattle.kind.specs.Naming.{Names, named, names_laws}

-- the two letters of each category
abbrev pub category_letters : Category → List ℕ
category_letters HighInfrared = 73 ∷ 72 ∷ []
category_letters MediumInfrared = 73 ∷ 77 ∷ []
category_letters LowInfrared = 73 ∷ 76 ∷ []
category_letters HighMultispectral = 77 ∷ 72 ∷ []
category_letters MediumMultispectral = 77 ∷ 77 ∷ []
category_letters LowMultispectral = 77 ∷ 76 ∷ []
category_letters HighVisible = 86 ∷ 72 ∷ []
category_letters MediumVisible = 86 ∷ 77 ∷ []
category_letters LowVisible = 86 ∷ 76 ∷ []
category_letters VideoFrame = 86 ∷ 70 ∷ []

abbrev pub categories : List Category
categories = HighInfrared ∷ MediumInfrared ∷ LowInfrared ∷ HighMultispectral ∷ MediumMultispectral ∷ LowMultispectral ∷ HighVisible ∷ MediumVisible ∷ LowVisible ∷ VideoFrame ∷ []

category_long : (v : Category) → length (category_letters v) ≡ 2
category_long HighInfrared = refl
category_long MediumInfrared = refl
category_long LowInfrared = refl
category_long HighMultispectral = refl
category_long MediumMultispectral = refl
category_long LowMultispectral = refl
category_long HighVisible = refl
category_long MediumVisible = refl
category_long LowVisible = refl
category_long VideoFrame = refl

category_found : (v : Category) → listed category_letters categories (category_letters v) ≡ Some v
category_found HighInfrared = refl
category_found MediumInfrared = refl
category_found LowInfrared = refl
category_found HighMultispectral = refl
category_found MediumMultispectral = refl
category_found LowMultispectral = refl
category_found HighVisible = refl
category_found MediumVisible = refl
category_found LowVisible = refl
category_found VideoFrame = refl

pub category_spelt : Spelt 2 category_letters
category_spelt = record { low = omega arith; high = omega arith; long = category_long; apart = apart_in category_letters categories category_found }

-- the two letters of each format
abbrev pub format_letters : Format → List ℕ
format_letters Frame = 70 ∷ 82 ∷ []
format_letters LineScan = 76 ∷ 83 ∷ []
format_letters Pushbroom = 80 ∷ 66 ∷ []
format_letters PanScan = 80 ∷ 83 ∷ []

abbrev pub formats : List Format
formats = Frame ∷ LineScan ∷ Pushbroom ∷ PanScan ∷ []

format_long : (v : Format) → length (format_letters v) ≡ 2
format_long Frame = refl
format_long LineScan = refl
format_long Pushbroom = refl
format_long PanScan = refl

format_found : (v : Format) → listed format_letters formats (format_letters v) ≡ Some v
format_found Frame = refl
format_found LineScan = refl
format_found Pushbroom = refl
format_found PanScan = refl

pub format_spelt : Spelt 2 format_letters
format_spelt = record { low = omega arith; high = omega arith; long = format_long; apart = apart_in format_letters formats format_found }

-- SAR and a space
abbrev pub sar : List ℕ
sar = 83 ∷ 65 ∷ 82 ∷ 32 ∷ []

abbrev pub Parts : Type 0
Parts = Either (Unit {0}) (Both Category Format)

-- SAR and a space, or else a category and a format
abbrev pub in_parts : List ℕ → Option Parts
in_parts s = either 4 (word sar) (seq 2 2 (listed category_letters categories) (listed format_letters formats)) s

abbrev pub made : Parts → Sensor
made (First u) = Radar
made (Second p) = Optical p.front p.back

abbrev pub parts : Sensor → Parts
parts Radar = First tt
parts (Optical c f) = Second (record { front = c; back = f })

-- what the type of a sensor reads as
unfoldable pub sensor : List ℕ → Option Sensor
sensor s = named made (in_parts s)

there : (p : Parts) → parts (made p) ≡ p
there (First u) = refl
there (Second p) = refl

back : (v : Sensor) → made (parts v) ≡ v
back Radar = refl
back (Optical c f) = refl

pub names : Names made parts in_parts sensor
unfolding sensor
names = record { same = λ s. refl; there = there; back = back }

pub parts_laws : Laws 4 in_parts
parts_laws = either_laws (word_laws sar (omega arith) (omega arith)) (seq_laws (listed_laws category_spelt categories) (listed_laws format_spelt formats))

pub sensor_laws : Laws 4 sensor
sensor_laws = names_laws names parts_laws

-- radar is told by its spelling alone
pub sar_reads : sensor sar ≡ Some Radar
unfolding sensor word
sar_reads = refl

pub radar_is : (s : List ℕ) → sensor s ≡ Some Radar → s ≡ sar
radar_is s e = sensor_laws.once s sar Radar e sar_reads
