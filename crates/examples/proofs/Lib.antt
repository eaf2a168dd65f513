pub mod OnBenchChip
