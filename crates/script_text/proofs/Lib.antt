mod LaneLemmas
mod ReadBack
mod Operations
